-- The laws of labels, and of drafts and their layout.
use Rattle.std.specs.Prelude.{◌⊎◌, ℕ, ◌≡◌, ◌<◌, ◌≤◌, ◌^◌, List, [], ◌∷◌, length, All, Some, None, Ok, IsTrue}
use Rattle.std.specs.List.{flat_map, slice_get}
use Rattle.dv_defs.specs.Spelling.{AreUnits, all_fit, fits_signed}
use Rattle.dv_defs.specs.Payloads.{all_fit_signed}
use Rattle.dv_defs.specs.Tiling.{tiling}
use Rattle.dv_draft.specs.declared.draft.Item.{Item}
use Rattle.dv_draft.specs.declared.draft.What.{What}
use Rattle.dv_draft.specs.declared.draft.Catch.{Catch}
use Rattle.dv_asm.specs.declared.tries.TryRange.{TryRange}
use Rattle.dv_draft.specs.declared.draft.What.TheVariants as what
use Rattle.dv_draft.specs.declared.draft.PoolRef.{PoolRef}
use Rattle.dv_draft.specs.declared.draft.PoolRef.TheVariants as pool
use Rattle.dv_draft.specs.Draft.{DraftValue, AreFormed}
use Rattle.dv_asm.specs.Items.{item_at}
use Rattle.dv_asm.specs.Places.{address_of, size_of_all, label_address}
use Rattle.dv_asm.specs.Refusals.{catch_at, range_of, ranges_of, item_refusal, range_refusal, refusal}
use Rattle.dv_print.specs.Numbers.{label_name}
use Rattle.dv_draft.specs.Pools.{pool_ref}
use Rattle.dv_draft.specs.Pools.{pools_of}
use Rattle.dv_asm.specs.Layout.{sorted_ranges, units_of, layout}
use Rattle.dv_asm.specs.Tiles.{tiles_of}
use Rattle.dv_print.specs.Drafting.{draft_of}
use Rattle.dv_defs.specs.Body.{most_units}

-- No two addresses have the same label.
abbrev pub LabelsAreDistinct : Type 0
LabelsAreDistinct = (a b : ℕ) → a < 2 ^ 32 → b < 2 ^ 32 → label_name a ≡ label_name b → a ≡ b

-- the numbers of an item are those of their types
abbrev pub HasNumbers : What → Type 0
HasNumbers (what.Label name) = Unit {0}
HasNumbers (what.Op op) = Unit {0}
HasNumbers (what.Packed first targets) = IsTrue (fits_signed 32 first)
HasNumbers (what.Sparse keys targets) = IsTrue (all_fit_signed keys)
HasNumbers (what.Data width bytes) = IsTrue (all_fit 8 bytes)

abbrev pub HaveNumbers : List Item → Type 0
HaveNumbers items = All (λ (item : Item). HasNumbers item.what) items

-- The units of items that aren't refused are tiled by what the items are: instructions and payloads at their addresses.
abbrev pub LayoutIsTiled : Type 0
LayoutIsTiled =
    (items : List Item) → AreFormed items → HaveNumbers items → item_refusal items ≡ None →
    AreUnits (units_of items (pools_of items) (length items)) →
    tiling (units_of items (pools_of items) (length items)) ≡ Ok (tiles_of items (pools_of items) (length items))

-- what instructions name, in the order of the items
abbrev pub entries_in : PoolRef → List PoolRef
entries_in pool.None = []
entries_in entry = entry ∷ []

abbrev pub item_entries : Item → List PoolRef
item_entries item = entries_in (pool_ref item.what)

abbrev pub entries_of : List Item → List PoolRef
entries_of items = flat_map item_entries items

-- The draft that is made of a laid-out body names what the draft before it names, so its pools are the same.
pub record KeepsEntries (before after : List Item) : Type 0 where
  pub entries : entries_of after ≡ entries_of before
  pub pools : pools_of after ≡ pools_of before

abbrev pub DraftKeepsEntries : Type 0
DraftKeepsEntries =
    (d : DraftValue) → AreFormed d.items → HaveNumbers d.items → item_refusal d.items ≡ None →
    AreUnits (layout d).units → KeepsEntries d.items (draft_of (layout d)).items

-- a label is named by the address at which it stands
abbrev pub IsNamedBy : What → ℕ → Type 0
IsNamedBy (what.Label name) address = name ≡ label_name address
IsNamedBy w address = Unit {0}

-- Layout of the draft that is made of a laid-out body puts each label at the address of its name, and the items end
-- where the body ends.
pub record KeepsAddresses (after : List Item) (units : List ℕ) : Type 0 where
  pub labels : (k : ℕ) → k < length after → IsNamedBy (item_at after k).what (address_of after k)
  pub size : size_of_all after ≡ length units

abbrev pub DraftKeepsAddresses : Type 0
DraftKeepsAddresses =
    (d : DraftValue) → AreFormed d.items → HaveNumbers d.items → item_refusal d.items ≡ None →
    AreUnits (layout d).units → KeepsAddresses (draft_of (layout d)).items (layout d).units

-- A label that stands in the draft of a laid-out body leads to the address of its name.
abbrev pub LabelsLead : Type 0
LabelsLead =
    (items : List Item) (units : List ℕ) (a j : ℕ) → KeepsAddresses items units → length units ≤ most_units → a ≤ most_units →
    slice_get items j ≡ Some (record { line = 0; what = what.Label (label_name a) }) → label_address items (label_name a) ≡ a

-- The draft that is made of a laid-out body is laid out as that body.
abbrev pub DraftIsKept : Type 0
DraftIsKept =
    (d : DraftValue) → AreFormed d.items → HaveNumbers d.items → refusal d ≡ None → AreUnits (layout d).units →
    layout (draft_of (layout d)) ≡ layout d

-- The draft is one that is assembled: its items have their forms and the numbers of their types, and it isn't refused.
pub record IsAssembled (d : DraftValue) : Type 0 where
  pub formed : AreFormed d.items
  pub numbers : HaveNumbers d.items
  pub accepted : refusal d ≡ None

-- The draft that is made of a laid-out body is one that is assembled.
abbrev pub DraftIsAssembled : Type 0
DraftIsAssembled =
    (d : DraftValue) → AreFormed d.items → HaveNumbers d.items → refusal d ≡ None → AreUnits (layout d).units →
    IsAssembled (draft_of (layout d))

-- a range is among these
abbrev pub Among : TryRange → List TryRange → Type 0
Among r [] = ⊥
Among r (s ∷ rs) = (s ≡ r) ⊎ Among r rs

-- these ranges begin after an address
abbrev pub After : ℕ → List TryRange → Type 0
After n [] = Unit {0}
After n (s ∷ rs) = (n < s.start) × After n rs

-- each range begins after those before it
abbrev pub IsSorted : List TryRange → Type 0
IsSorted [] = Unit {0}
IsSorted (r ∷ rs) = After r.start rs × IsSorted rs

-- the ranges of the try entries are those of the handlers, each once, by their starts
pub record AreRangesOf (items : List Item) (catches : List Catch) : Type 0 where
  pub sorted : IsSorted (sorted_ranges items catches)
  pub all : (k : ℕ) → k < length catches → Among (range_of items (catch_at catches k)) (sorted_ranges items catches)
  pub own : (r : TryRange) → Among r (sorted_ranges items catches) → Among r (ranges_of items catches)

-- The try entries of a draft whose ranges aren't refused have the ranges of its handlers, each once, by their starts.
abbrev pub RangesAreSorted : Type 0
RangesAreSorted = (items : List Item) (catches : List Catch) → range_refusal items catches ≡ None → AreRangesOf items catches
