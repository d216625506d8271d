-- Ranges by their starts, and the handlers of each range, as they are looked up.
use Rattle.std.specs.Prelude.{ℕ, ◌≡◌, ◌<◌, ◌≤◌, List, [], ◌∷◌, map, Option, Some, None}
use Rattle.std.specs.Borrow.{Bor}
use Rattle.std.specs.Global.{Vec}
use Rattle.std.specs.BTreeMap.{BTreeMap, get}
use Rattle.std.specs.declared.cmp.Ordering.{Ordering}
use Rattle.dv_draft.specs.declared.draft.Item.{Item}
use Rattle.dv_draft.specs.declared.draft.Catch.{Catch}
use Rattle.dv_asm.specs.declared.tries.TryRange.{TryRange}
use Rattle.dv_asm.specs.contracts.tries.TryRangeOrd.TheImpl as of_range
use Rattle.dv_asm.specs.Layout.{catches_of}

-- the range from a start to an end
abbrev pub range_in : ℕ × ℕ → TryRange
range_in e = record { start = e.0; end = e.1 }

abbrev pub ranges_in : List (ℕ × ℕ) → List TryRange
ranges_in es = map range_in es

-- each range starts at an address or behind it
abbrev pub StartFrom : ℕ → List (ℕ × ℕ) → Type 0
StartFrom n [] = Unit {0}
StartFrom n (e ∷ es) = (n ≤ e.0) × StartFrom n es

-- no range is empty, and each ends where the next one starts, or before
abbrev pub AreApart : List (ℕ × ℕ) → Type 0
AreApart [] = Unit {0}
AreApart (e ∷ es) = (e.0 < e.1) × StartFrom e.1 es × AreApart es

-- the handlers that a look-up by a range finds
abbrev pub found : Option (Vec (Bor Catch)) → List Catch
found None = []
found (Some group) = map (λ (c : Bor Catch). c.now) group.items

-- the order of ranges: by their starts, then by their ends
abbrev pub range_cmp : TryRange → TryRange → Ordering
range_cmp = (of_range.ghosts).cmp

-- the ranges of the handlers, each with its handlers in the order of the text
abbrev pub AreGroups : List Item → List Catch → BTreeMap TryRange (Vec (Bor Catch)) → Type 0
AreGroups items catches groups = (r : TryRange) → found (get range_cmp groups r) ≡ catches_of items catches r
