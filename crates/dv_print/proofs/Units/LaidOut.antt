-- The units that layout gives of a draft are tiled by its instructions and payloads.
use Rattle.std.proofs.Common.{◌≡◌, ℕ, ◌≤◌, List, length, Option, Some, None, Ok, IsSome, IsTrue, refl, ◌∙◌, arith}
use Rattle.std.specs.Option.{option_map_or}
use Rattle.std.proofs.lemmas.List.{length-map}
use Rattle.std.proofs.lemmas.List.Quantifiers.{position-Some}
use Rattle.dv_defs.specs.declared.faults.LineKind.TheVariants as kind
use Rattle.dv_defs.specs.Spelling.{all_fit}
use Rattle.dv_defs.specs.Tiling.{tiling}
use Rattle.dv_defs.proofs.TilingLaws.{tiles_found}
use Rattle.dv_draft.specs.declared.draft.Item.{Item}
use Rattle.dv_draft.specs.declared.draft.What.{What}
use Rattle.dv_draft.specs.declared.draft.What.TheVariants as what
use Rattle.dv_draft.specs.declared.pools.Pools.{Pools}
use Rattle.dv_draft.specs.Draft.{AreFormed}
use Rattle.dv_asm.specs.Items.{item_at, no_item}
use Rattle.dv_asm.specs.Places.{address_of, end_of}
use Rattle.dv_asm.specs.Refusals.{refused, item_refusal, repeated, register_range, offset_range, too_long, is_address, addresses_named, switch_of}
use Rattle.dv_draft.specs.Pools.{pools_of}
use Rattle.dv_asm.specs.Layout.{IsWritable, AreSpelled, base_of, targets_of, spelling_of, units_of}
use Rattle.dv_asm.specs.Tiles.{tiles_of}
use Rattle.dv_asm.proofs.TileLemmas.{are_tiled}
use Rattle.dv_asm.proofs.PayloadLemmas.{distances_fit, packed_spelled, sparse_spelled, data_spelled}
use Rattle.dv_asm.proofs.PlaceLemmas.{address_within}
use Rattle.dv_asm.proofs.Writing.{are_writable}
use Rattle.dv_print.specs.Laws.{HasNumbers, HaveNumbers}
use Rattle.dv_print.proofs.Truth.{none_of, refused_none}

found_within : (items : List Item) (place : Option ℕ) → ((k : ℕ) → place ≡ Some k → k ≤ length items) → too_long items ≡ None → option_map_or (address_of items) place 0 ≤ 16384
found_within items None inside short = omega arith
found_within items (Some k) inside short = address_within items k short (inside k refl)

named_length : (items : List Item) → length (addresses_named items) ≡ length items
named_length items = simp length-map

base_within : (items : List Item) (address : ℕ) → too_long items ≡ None → base_of items address ≤ 16384
base_within items address short =
    found_within items (switch_of items address) (λ k found. omega (arith, (position-Some (is_address address) (addresses_named items) k None found).0, named_length items)) short

targets_length : (items : List Item) (address : ℕ) (names : List (List ℕ)) → length (targets_of items address names) ≡ length names
targets_length items address names = simp length-map

item_spelled : (items : List Item) (pools : Pools) (k : ℕ) (w : What) → too_long items ≡ None → IsWritable items pools k w → HasNumbers w → IsSome (spelling_of items pools k w)
item_spelled items pools k (what.Label name) short h n = refl
item_spelled items pools k (what.Op op) short h n = h
item_spelled items pools k (what.Packed first names) short h n =
    packed_spelled first (targets_of items (address_of items k) names) n (omega (arith, h, targets_length items (address_of items k) names))
    (distances_fit items (base_of items (address_of items k)) names short (base_within items (address_of items k) short))
item_spelled items pools k (what.Sparse keys names) short h n =
    sparse_spelled keys (targets_of items (address_of items k) names) (targets_length items (address_of items k) names ∙ h.0) (omega (arith, h.1, targets_length items (address_of items k) names)) n
    (distances_fit items (base_of items (address_of items k)) names short (base_within items (address_of items k) short))
item_spelled items pools k (what.Data width bytes) short h n = data_spelled width bytes h.0 h.1 h.2 n

pub are_short : (items : List Item) → item_refusal items ≡ None → too_long items ≡ None
are_short items none =
    refused_none kind.TooLong (too_long items)
    (none_of (refused kind.OffsetRange (offset_range items)) (refused kind.TooLong (too_long items))
    (none_of (refused kind.RegisterRange (register_range items)) _ (none_of (refused kind.Repeated (repeated items)) _ none).1).1).1

-- items that aren't refused have spellings
are_spelled : (items : List Item) → AreFormed items → HaveNumbers items → item_refusal items ≡ None → AreSpelled items (pools_of items)
are_spelled items formed numbers none k within =
    item_spelled items (pools_of items) k (item_at items k).what (are_short items none) (are_writable items formed none k within) (numbers k no_item within)

pub layout_size : (items : List Item) → AreFormed items → HaveNumbers items → item_refusal items ≡ None → length (units_of items (pools_of items) (length items)) ≡ end_of items (length items)
layout_size items formed numbers none = (are_tiled items (pools_of items) (are_spelled items formed numbers none) (length items) (omega arith)).reached

pub layout_is_tiled : (items : List Item) → AreFormed items → HaveNumbers items → item_refusal items ≡ None → IsTrue (all_fit 16 (units_of items (pools_of items) (length items))) → tiling (units_of items (pools_of items) (length items)) ≡ Ok (tiles_of items (pools_of items) (length items))
layout_is_tiled items formed numbers none fit =
    let spelled = are_spelled items formed numbers none in
    tiles_found (tiles_of items (pools_of items) (length items)) 0 (units_of items (pools_of items) (length items)) fit (are_tiled items (pools_of items) spelled (length items) (omega arith)).tiled
