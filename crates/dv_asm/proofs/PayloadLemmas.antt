-- The numbers of payloads fit, and payloads have spellings of their sizes.
use Rattle.std.proofs.Common.{◌≡◌, ◌/◌, ◌%◌, ◌≤◌, ◌<◌, ◌^◌, Bool, true, ℕ, ℤ, pos, negsuc, ◌-ℤ◌, List, [], ◌∷◌, length, map, w32, IsSome, nat_eq, None, is_some, refl, ap, sym, subst, arith}
use Rattle.std.proofs.lemmas.Bool.{lt-ltb}
use Rattle.std.proofs.lemmas.Bool.Decides.{nat_tests}
use Rattle.std.proofs.lemmas.Int.{ints, to_z-of_z}
use mir.Val.{SFits, to_z, of_z}
use Rattle.dv_defs.specs.Spelling.{fits_signed, all_fit}
use Rattle.dv_defs.specs.Tiling.{is_width}
use Rattle.dv_defs.specs.Payloads.{packed_spelling, sparse_spelling, data_spelling, all_fit_signed, where_fits}
use Rattle.dv_defs.proofs.PayloadLaws.{both, where_it_fits}
use Rattle.dv_draft.specs.declared.draft.Item.{Item}
use Rattle.dv_asm.specs.Places.{label_address, distance}
use Rattle.dv_asm.specs.Refusals.{too_long}
use Rattle.dv_asm.proofs.PlaceLemmas.{label_within}

small_fits : (a b : ℕ) → a ≤ 16384 → b ≤ 16384 → fits_signed 32 (pos a -ℤ pos b) ≡ true
small_fits a b p q = at (pos a -ℤ pos b) refl
  where
    at : (z : ℤ) → pos a -ℤ pos b ≡ z → fits_signed 32 z ≡ true
    at (pos n) e = lt-ltb n (2 ^ 31) (omega (arith, ints))
    at (negsuc n) e = lt-ltb n (2 ^ 31) (omega (arith, ints))

pub distances_fit : (items : List Item) (from : ℕ) (names : List (List ℕ)) → too_long items ≡ None → from ≤ 16384 → all_fit_signed (map (distance items from) names) ≡ true
distances_fit items from [] short small = refl
distances_fit items from (name ∷ names) short small =
    both _ _ (small_fits (label_address items name) from (label_within items name short) small) (distances_fit items from names short small)

some_where : (fitting : Bool) (us : List ℕ) → fitting ≡ true → IsSome (where_fits fitting us)
some_where fitting us e = ap is_some (where_it_fits fitting us us e refl)

pub packed_spelled : (first : ℤ) (targets : List ℤ) → fits_signed 32 first ≡ true → length targets < 2 ^ 16 → all_fit_signed targets ≡ true → IsSome (packed_spelling first targets)
packed_spelled first targets f few fitting = some_where _ _ (both _ _ (lt-ltb _ _ few) (both _ _ f fitting))

pub sparse_spelled : (keys targets : List ℤ) → length targets ≡ length keys → length targets < 2 ^ 16 → all_fit_signed keys ≡ true → all_fit_signed targets ≡ true → IsSome (sparse_spelling keys targets)
sparse_spelled keys targets same few f fitting =
    let count : length keys < 2 ^ 16 = omega (arith, same) in
    let equal : nat_eq (length targets) (length keys) ≡ true = grind (arith, nat_tests) in
    some_where _ _ (both _ _ (lt-ltb _ _ count) (both _ _ equal (both _ _ f fitting)))

quotient_small : (n width : ℕ) → n < 2 ^ 32 → n / width < 2 ^ 32
quotient_small n width small = grind arith

pub data_spelled : (width : ℕ) (bytes : List ℕ) → is_width width ≡ true → length bytes % width ≡ 0 → length bytes < 2 ^ 32 → all_fit 8 bytes ≡ true → IsSome (data_spelling width bytes)
data_spelled width bytes w whole few fitting =
    let none_left : nat_eq (length bytes % width) 0 ≡ true = grind (arith, nat_tests) in
    some_where _ _ (both _ _ w (both _ _ none_left (both _ _ (lt-ltb _ _ (quotient_small (length bytes) width few)) fitting)))

pub number_fits : (z : ℤ) → SFits w32 z → fits_signed 32 z ≡ true
number_fits (pos n) inside = lt-ltb n (2 ^ 31) inside.sfits
number_fits (negsuc n) inside = lt-ltb n (2 ^ 31) inside.sfits

-- as a first key is read
pub packed_spelled_as : (first : ℤ) (targets us : List ℤ) → SFits w32 first → targets ≡ us → length us < 2 ^ 16 → all_fit_signed us ≡ true → IsSome (packed_spelling (to_z w32 (of_z w32 first)) targets)
packed_spelled_as first targets us inside same few fitting =
    let P : ℤ → Type 0 = λ z. IsSome (packed_spelling z targets) in
    let Q : List ℤ → Type 0 = λ ts. IsSome (packed_spelling first ts) in
    subst P (sym (to_z-of_z w32 first inside)) (subst Q (sym same) (packed_spelled first us (number_fits first inside) few fitting))
