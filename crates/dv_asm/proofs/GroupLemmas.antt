-- The types that the handlers of a range catch, as they are added from the handlers that a look-up finds.
use Rattle.std.proofs.Common.{◌≡◌, Bool, true, false, cond, List, [], ◌∷◌, map, Option, None, if◌then◌else◌, refl, ap, ◌∙◌}
use Rattle.std.specs.Borrow.{Bor}
use Rattle.dv_defs.specs.declared.names.Ty.{Ty}
use Rattle.dv_defs.specs.Types.{ty_eq}
use Rattle.dv_draft.specs.declared.draft.Item.{Item}
use Rattle.dv_draft.specs.declared.draft.Catch.{Catch}
use Rattle.dv_asm.specs.declared.tries.TryRange.{TryRange}
use Rattle.dv_asm.specs.Refusals.{range_of, is_same}
use Rattle.dv_draft.specs.Pools.{with_entry_if_any, with_entries}
use Rattle.dv_asm.specs.Layout.{kind_in, catches_of}

-- the type that a handler catches, by a reference to it
abbrev pub kind_of : Bor Catch → Option Ty
kind_of c = c.now.kind

abbrev own_kind : Catch → Option Ty
own_kind c = c.kind

by_references : (ts : List Ty) (group : List (Bor Catch)) → with_entries ty_eq kind_of ts group ≡ with_entries ty_eq own_kind ts (map (λ (c : Bor Catch). c.now) group)
by_references ts [] = refl
by_references ts (c ∷ group) = by_references (with_entry_if_any ty_eq ts (kind_of c)) group

of_range : (items : List Item) (r : TryRange) (ts : List Ty) (catches : List Catch) → with_entries ty_eq own_kind ts (catches_of items catches r) ≡ with_entries ty_eq (kind_in items r) ts catches
of_range items r ts [] = refl
of_range items r ts (c ∷ catches) = at (is_same (range_of items c) r) (λ us. of_range items r us catches)
  where
    at : (b : Bool) → ((us : List Ty) → with_entries ty_eq own_kind us (catches_of items catches r) ≡ with_entries ty_eq (kind_in items r) us catches) → with_entries ty_eq own_kind ts (cond b (c ∷ catches_of items catches r) (catches_of items catches r)) ≡ with_entries ty_eq (kind_in items r) (with_entry_if_any ty_eq ts (if b then c.kind else None)) catches
    at true rest = rest (with_entry_if_any ty_eq ts c.kind)
    at false rest = rest ts

-- the types of a range's handlers
pub kinds_added : (items : List Item) (catches : List Catch) (r : TryRange) (ts : List Ty) (group : List (Bor Catch)) → map (λ (c : Bor Catch). c.now) group ≡ catches_of items catches r → with_entries ty_eq kind_of ts group ≡ with_entries ty_eq (kind_in items r) ts catches
kinds_added items catches r ts group same = by_references ts group ∙ (ap (with_entries ty_eq own_kind ts) same ∙ of_range items r ts catches)
