-- The numbers of a payload in their units, both ways.
use Rattle.std.proofs.Common.{◌≡◌, ℕ, ◌+◌, ◌*◌, ◌/◌, ◌%◌, ◌<◌, ◌≤◌, ◌^◌, zero, suc, ℤ, Bool, true, ◌&&◌, List, [], ◌∷◌, ◌++◌, length, take, map, Option, Some, None, refl, ap, ◌∙◌, arith}
use Rattle.std.proofs.lemmas.Bool.{and_parts}
use Rattle.dv_defs.specs.Numbers.{signed_at}
use Rattle.dv_defs.specs.Spelling.{all_fit, complement}
use Rattle.dv_defs.specs.Tiling.{doubles, signed_all}
use Rattle.dv_defs.specs.Payloads.{numbers_spelling, all_fit_signed}
use Rattle.dv_defs.proofs.Signed.{complement_of_signed, signed_fits, signed_of_complement}
use Rattle.dv_defs.proofs.DecodingFormats.{unit_parts}

pub length_numbers : (xs : List ℤ) → length (numbers_spelling xs) ≡ length xs * 2
length_numbers [] = refl
length_numbers (x ∷ xs) = let h = length_numbers xs in omega (arith, h)

pub numbers_append : (xs ys : List ℤ) → numbers_spelling (xs ++ ys) ≡ numbers_spelling xs ++ numbers_spelling ys
numbers_append [] ys = refl
numbers_append (x ∷ xs) ys = ap (λ us. complement 32 x % 2 ^ 16 ∷ complement 32 x / 2 ^ 16 ∷ us) (numbers_append xs ys)

abbrev with_number : ℕ → Option (List ℕ) → Option (List ℕ)
with_number k o = elim o [ None ↦ None | Some xs ↦ Some (k ∷ xs) ]

whole : (k : ℕ) → k % 2 ^ 16 + k / 2 ^ 16 * 2 ^ 16 ≡ k
whole k = omega arith

pub doubles_of : (xs : List ℤ) (rest : List ℕ) → doubles (length xs) (numbers_spelling xs ++ rest) ≡ Some (map (complement 32) xs)
doubles_of [] rest = refl
doubles_of (x ∷ xs) rest =
    ap (with_number (complement 32 x % 2 ^ 16 + complement 32 x / 2 ^ 16 * 2 ^ 16)) (doubles_of xs rest) ∙
    ap (λ k. Some (k ∷ map (complement 32) xs)) (whole (complement 32 x))

pub signed_back : (xs : List ℤ) → all_fit_signed xs ≡ true → signed_all (map (complement 32) xs) ≡ xs
signed_back [] t = refl
signed_back (x ∷ xs) t =
    let p = and_parts _ _ t in
    let e : signed_at 32 (complement 32 x) ≡ x = signed_of_complement 32 x (omega arith) p.0 in
    let h = signed_back xs p.1 in
    cc (e, h)

-- numbers that were read from the beginning of units
pub record AreRead (n : ℕ) (us xs : List ℕ) : Type 0 where
  pub count : length xs ≡ n
  pub room : n * 2 ≤ length us
  pub units : numbers_spelling (signed_all xs) ≡ take (n * 2) us
  pub fit : all_fit_signed (signed_all xs) ≡ true

halves : (v w : ℕ) → v < 2 ^ 16 → w < 2 ^ 16 → ((v + w * 2 ^ 16) % 2 ^ 16 ≡ v) × ((v + w * 2 ^ 16) / 2 ^ 16 ≡ w) × (v + w * 2 ^ 16 < 2 ^ 32)
halves v w h k = (omega arith, omega arith, omega arith)

both : (a b : Bool) → a ≡ true → b ≡ true → (a && b) ≡ true
both a b h k = cc

from_inner : (n v w : ℕ) (us xs : List ℕ) (o : Option (List ℕ)) → v < 2 ^ 16 → w < 2 ^ 16 → ((ys : List ℕ) → o ≡ Some ys → AreRead n us ys) → with_number (v + w * 2 ^ 16) o ≡ Some xs → AreRead (suc n) (v ∷ w ∷ us) xs
from_inner n v w us xs None bv bw r e = absurd (cc)
from_inner n v w us [] (Some ys) bv bw r e = absurd (cc)
from_inner n v w us (x ∷ xs) (Some ys) bv bw r e =
    let h = r xs (cc) in
    let k : x ≡ v + w * 2 ^ 16 = cc in
    let p = halves v w bv bw in
    let small : x < 2 ^ 32 = omega (arith, k, p.2) in
    let c : complement 32 (signed_at 32 x) ≡ x = complement_of_signed 32 x small in
    let low : complement 32 (signed_at 32 x) % 2 ^ 16 ≡ v = ap (λ m. m % 2 ^ 16) (c ∙ k) ∙ p.0 in
    let high : complement 32 (signed_at 32 x) / 2 ^ 16 ≡ w = ap (λ m. m / 2 ^ 16) (c ∙ k) ∙ p.1 in
    let more : suc (suc (n * 2)) ≡ suc n * 2 = omega arith in
    let front : numbers_spelling (signed_all (x ∷ xs)) ≡ take (suc (suc (n * 2))) (v ∷ w ∷ us) = cc (low, high, h.units) in
    record {
      count = ap suc h.count;
      room = omega (arith, h.room);
      units = front ∙ ap (λ m. take m (v ∷ w ∷ us)) more;
      fit = both _ _ (signed_fits 32 x (omega arith) small) h.fit;
    }

pub read_numbers : (n : ℕ) (us xs : List ℕ) → all_fit 16 us ≡ true → doubles n us ≡ Some xs → AreRead n us xs
read_numbers zero us [] t e = record { count = refl; room = omega arith; units = refl; fit = refl }
read_numbers zero us (x ∷ xs) t e = absurd (cc)
read_numbers (suc n) [] xs t e = absurd (cc)
read_numbers (suc n) (v ∷ []) xs t e = absurd (cc)
read_numbers (suc n) (v ∷ w ∷ us) xs t e =
    let p = unit_parts v (w ∷ us) t in
    let q = unit_parts w us p.1 in
    from_inner n v w us xs (doubles n us) p.0 q.0 (λ ys d. read_numbers n us ys q.1 d) e
