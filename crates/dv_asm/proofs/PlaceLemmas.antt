-- The addresses of items, one after another.
use Rattle.std.proofs.Common.{◌≡◌, ◌+◌, ◌≤◌, ◌<◌, ◌^◌, ◌%◌, ◌&&◌, Bool, false, ℕ, zero, suc, List, length, drop, slice_index, nat_eq, nat_le, nat_lt, Option, Some, None, if◌then◌else◌, arith, refl}
use Rattle.std.specs.Option.{option_map_or}
use Rattle.std.proofs.lemmas.List.Quantifiers.{position-Some}
use Rattle.std.proofs.lemmas.Bool.Decides.{nat_tests}
use Rattle.dv_draft.specs.declared.draft.Item.{Item}
use Rattle.dv_asm.specs.Items.{item_at, size_of, no_item, is_named}
use Rattle.dv_asm.specs.Places.{end_of, address_of, aligned, leads_to_payload, place_of, label_address}
use Rattle.dv_asm.specs.Refusals.{passes, too_long_at, too_long}
use Rattle.dv_asm.proofs.FirstLemmas.{first_line_none, not_when}

-- the addresses of the first k items, which end at `end`
pub record AreSoFar (items : List Item) (places : List ℕ) (end k : ℕ) : Type 0 where
  pub count : length places ≡ k
  pub end_is : end ≡ end_of items k
  pub places_at : (j : ℕ) → j < k → slice_index places j ≡ address_of items j
  pub small : (j : ℕ) → j < k → address_of items j ≤ 2 ^ 62
  pub end_small : end < 2 ^ 62

-- an alignment adds at most one, and nothing at an even end
pub aligned_by : (end : ℕ) (b : Bool) → (end ≤ (if nat_eq (end % 2) 1 && b then end + 1 else end)) × ((if nat_eq (end % 2) 1 && b then end + 1 else end) ≤ end + end % 2)
aligned_by end b = grind (arith, nat_tests)

pub aligned_above : (end : ℕ) (items : List Item) → end ≤ aligned end items
aligned_above end items = (aligned_by end (leads_to_payload items)).0

pub aligned_below : (end : ℕ) (items : List Item) → aligned end items ≤ end + end % 2
aligned_below end items = (aligned_by end (leads_to_payload items)).1

even_limit : (end : ℕ) → end ≤ 16384 → end + end % 2 ≤ 16384
even_limit end small = omega arith

passes_not : (address size : ℕ) → (nat_le address 16384 && nat_lt 16384 (address + size)) ≡ false → address ≤ 16384 → address + size ≤ 16384
passes_not address size not small = grind (arith, nat_tests)

-- where no item's end passes the limit, none of the first k items ends past it
pub ends_within : (items : List Item) → too_long items ≡ None → (k : ℕ) → k ≤ length items → end_of items k ≤ 16384
ends_within items short zero within = omega arith
ends_within items short (suc k) within =
    let before = ends_within items short k (omega arith) in
    let here : address_of items k ≤ 16384 = omega (arith, aligned_below (end_of items k) (drop k items), even_limit (end_of items k) before) in
    let not = not_when (passes items k) (item_at items k).line (first_line_none (too_long_at items) (length items) k short (omega arith)) in
    passes_not (address_of items k) (size_of (item_at items k).what) not here

pub address_within : (items : List Item) (k : ℕ) → too_long items ≡ None → k ≤ length items → address_of items k ≤ 16384
address_within items k short within =
    omega (arith, aligned_below (end_of items k) (drop k items), even_limit (end_of items k) (ends_within items short k within))

place_within : (items : List Item) (place : Option ℕ) → ((k : ℕ) → place ≡ Some k → k ≤ length items) → too_long items ≡ None → option_map_or (address_of items) place 0 ≤ 16384
place_within items None inside short = omega arith
place_within items (Some k) inside short = address_within items k short (inside k refl)

pub label_within : (items : List Item) (name : List ℕ) → too_long items ≡ None → label_address items name ≤ 16384
label_within items name short =
    place_within items (place_of items name) (λ k found. omega (arith, (position-Some (is_named name) items k no_item found).0)) short
