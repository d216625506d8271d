-- The parts of payloads as they are read.
use Rattle.std.proofs.Common.{◌≡◌, ℕ, ◌+◌, ◌*◌, ◌/◌, ◌<◌, ◌^◌, suc, ℤ, Bool, true, false, ◌&&◌, List, [], ◌∷◌, ◌++◌, length, take, drop, get_or, Some, refl, ap, sym, ◌∙◌, arith, length-drop}
use Rattle.std.specs.Prelude.{nat_eq}
use Rattle.std.proofs.lemmas.Bool.{lt-ltb}
use Rattle.std.proofs.lemmas.Bool.Decides.{nat_tests}
use Rattle.std.proofs.lemmas.Int.{to_z-of_z}
use Rattle.std.proofs.lemmas.List.{length-take-le}
use Rattle.std.proofs.lemmas.List.Folds.{list_all-append}
use Rattle.std.proofs.Math.Seq.{take-add}
use mir.Syntax.{w8}
use mir.Val.{Fits}
use Rattle.dv_defs.specs.declared.code.Payload.TheVariants as payload
use Rattle.dv_defs.specs.Spelling.{all_fit, fits_signed, complement, two_units}
use Rattle.dv_defs.specs.Tiling.{bytes_in}
use Rattle.dv_defs.specs.Payloads.{numbers_spelling, all_fit_signed, packed_spelling, sparse_spelling, data_spelling, payload_here}
use Rattle.dv_defs.proofs.PayloadNumbers.{length_numbers, numbers_append}
use Rattle.dv_defs.proofs.PayloadLaws.{both, where_it_fits, payload_here_spelled}
use Rattle.dv_units.specs.declared.header.Header.TheVariants as header
use Rattle.dv_units.specs.Payloads.{IsHeader}
use Rattle.dv_units.proofs.Headers.{data_is}

pub bytes_of_slice : (bytes : List ℕ) → ((i : ℕ) → Fits w8 (get_or bytes i 0)) → all_fit 8 bytes ≡ true
bytes_of_slice [] h = refl
bytes_of_slice (b ∷ bytes) h =
    let first : b < 2 ^ 8 = (h 0).fits in
    both _ _ (lt-ltb _ _ first) (bytes_of_slice bytes (λ i. h (suc i)))

pub numbers_push : (xs : List ℤ) (x : ℤ) → numbers_spelling (xs ++ x ∷ []) ≡ numbers_spelling xs ++ two_units (complement 32 x)
numbers_push xs x = numbers_append xs (x ∷ [])

and_one : (a b : Bool) → b ≡ true → (a && (b && true)) ≡ a
and_one true b h = cc
and_one false b h = refl

pub fit_push : (xs : List ℤ) (x : ℤ) → fits_signed 32 x ≡ true → all_fit_signed (xs ++ x ∷ []) ≡ all_fit_signed xs
fit_push xs x h = list_all-append (λ y. fits_signed 32 y) xs (x ∷ []) ∙ and_one _ _ h

pub ruleset number_steps = (numbers_push, fit_push, to_z-of_z)

-- the parts of a packed payload in its units
pub packed_parts : (n : ℕ) (us : List ℕ) (first : ℤ) (targets : List ℤ) → n < 2 ^ 16 → IsHeader (header.Packed n) us → two_units (complement 32 first) ≡ get_or us 2 0 ∷ get_or us 3 0 ∷ [] → fits_signed 32 first ≡ true → numbers_spelling targets ≡ take (n * 2) (drop 4 us) → all_fit_signed targets ≡ true → packed_spelling first targets ≡ Some (take (n * 2 + 4) us)
packed_parts n [] first targets b i e f h t = absurd (omega (arith, i.1))
packed_parts n (u ∷ []) first targets b i e f h t = absurd (omega (arith, i.1))
packed_parts n (u ∷ w ∷ []) first targets b i e f h t = absurd (omega (arith, i.1))
packed_parts n (u ∷ w ∷ x ∷ []) first targets b i e f h t = absurd (omega (arith, i.1))
packed_parts n (u ∷ w ∷ x ∷ y ∷ us) first targets b i e f h t =
    let size : length targets * 2 ≡ n * 2 = sym (length_numbers targets) ∙ (ap length h ∙ length-take-le (n * 2) us (omega (arith, i.1))) in
    let count : length targets ≡ n = omega (arith, size) in
    let more : suc (suc (suc (suc (n * 2)))) ≡ n * 2 + 4 = omega arith in
    let mark : u ≡ 0x0100 = cc (i.0) in
    let second : w ≡ n = cc (i.0) in
    let units : (0x0100 ∷ length targets ∷ (two_units (complement 32 first) ++ numbers_spelling targets)) ≡ take (suc (suc (suc (suc (n * 2))))) (u ∷ w ∷ x ∷ y ∷ us) = cc (mark, second, count, e, h) in
    where_it_fits _ _ _ (both _ _ (lt-ltb _ _ (let small : length targets < 2 ^ 16 = omega (arith, count) in small)) (both _ _ f t)) (units ∙ ap (λ m. take m (u ∷ w ∷ x ∷ y ∷ us)) more)

pub sparse_parts : (n : ℕ) (us : List ℕ) (keys targets : List ℤ) → n < 2 ^ 16 → IsHeader (header.Sparse n) us → numbers_spelling keys ≡ take (n * 2) (drop 2 us) → all_fit_signed keys ≡ true → numbers_spelling targets ≡ take (n * 2) (drop (2 + n * 2) us) → all_fit_signed targets ≡ true → sparse_spelling keys targets ≡ Some (take (n * 4 + 2) us)
sparse_parts n [] keys targets b i h f k t = absurd (omega (arith, i.1))
sparse_parts n (u ∷ []) keys targets b i h f k t = absurd (cc (i.0))
sparse_parts n (u ∷ w ∷ us) keys targets b i h f k t =
    let later : drop (n * 2) us ≡ drop (2 + n * 2) (u ∷ w ∷ us) = ap (λ m. drop m (u ∷ w ∷ us)) (let c : suc (suc (n * 2)) ≡ 2 + n * 2 = omega arith in c) in
    let k' : numbers_spelling targets ≡ take (n * 2) (drop (n * 2) us) = k ∙ ap (take (n * 2)) (sym later) in
    let size : length keys * 2 ≡ n * 2 = sym (length_numbers keys) ∙ (ap length h ∙ length-take-le (n * 2) us (omega (arith, i.1))) in
    let size' : length targets * 2 ≡ n * 2 = sym (length_numbers targets) ∙ (ap length k' ∙ length-take-le (n * 2) (drop (n * 2) us) (omega (arith, i.1, length-drop (n * 2) us))) in
    let count : length keys ≡ n = omega (arith, size) in
    let count' : length targets ≡ n = omega (arith, size') in
    let numbers : numbers_spelling keys ++ numbers_spelling targets ≡ take (n * 2 + n * 2) us = cc (h, k', take-add (n * 2) (n * 2) us) in
    let more : suc (suc (n * 2 + n * 2)) ≡ n * 4 + 2 = omega arith in
    let mark : u ≡ 0x0200 = cc (i.0) in
    let second : w ≡ n = cc (i.0) in
    let units : (0x0200 ∷ length keys ∷ (numbers_spelling keys ++ numbers_spelling targets)) ≡ take (suc (suc (n * 2 + n * 2))) (u ∷ w ∷ us) = cc (mark, second, count, numbers) in
    let small : length keys < 2 ^ 16 = omega (arith, count) in
    let same : nat_eq (length targets) (length keys) ≡ true = grind (arith, nat_tests, count, count') in
    where_it_fits _ _ _ (both _ _ (lt-ltb _ _ small) (both _ _ same (both _ _ f t))) (units ∙ ap (λ m. take m (u ∷ w ∷ us)) more)

pub data_parts : (width m : ℕ) (us bytes : List ℕ) → all_fit 16 us ≡ true → IsHeader (header.Data width m) us → bytes ≡ take m (bytes_in (take ((m + 1) / 2) (drop 4 us))) → data_spelling width bytes ≡ Some (take ((m + 1) / 2 + 4) us)
data_parts width m us bytes t i e =
    let here = ap payload_here i.0 ∙ data_is width _ _ m (drop 4 us) i.1 i.2 (omega (arith, i.3, length-drop 4 us)) i.4 in
    ap (data_spelling width) e ∙ (payload_here_spelled us (payload.Data width (take m (bytes_in (take ((m + 1) / 2) (drop 4 us))))) ((m + 1) / 2 + 4) t here).1
