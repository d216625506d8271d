-- The bytes of units, and the numbers that they are.
use Rattle.std.proofs.Common.{◌≡◌, ℕ, zero, suc, ◌*◌, ◌/◌, ◌%◌, List, [], ◌∷◌, get_or, refl, sym, ap, ◌∙◌, arith}
use Rattle.dv_defs.specs.Tiling.{bytes_in}

pub low_byte : (us : List ℕ) (k : ℕ) → get_or (bytes_in us) (2 * k) 0 ≡ get_or us k 0 % 256
low_byte [] k = refl
low_byte (u ∷ us) zero = refl
low_byte (u ∷ us) (suc k) =
    let twice : 2 * suc k ≡ suc (suc (2 * k)) = omega arith in
    ap (λ (n : ℕ). get_or (bytes_in (u ∷ us)) n 0) twice ∙ low_byte us k

pub high_byte : (us : List ℕ) (k : ℕ) → get_or (bytes_in us) (suc (2 * k)) 0 ≡ get_or us k 0 / 256
high_byte [] k = refl
high_byte (u ∷ us) zero = refl
high_byte (u ∷ us) (suc k) =
    let twice : 2 * suc k ≡ suc (suc (2 * k)) = omega arith in
    ap (λ (n : ℕ). get_or (bytes_in (u ∷ us)) (suc n) 0) twice ∙ high_byte us k

pub even_byte : (us : List ℕ) (p : ℕ) → p % 2 ≡ 0 → get_or (bytes_in us) p 0 ≡ get_or us (p / 2) 0 % 256
even_byte us p e =
    let half : 2 * (p / 2) ≡ p = omega (arith, e) in
    ap (λ (n : ℕ). get_or (bytes_in us) n 0) (sym half) ∙ low_byte us (p / 2)

pub odd_byte : (us : List ℕ) (p : ℕ) → p % 2 ≡ 1 → get_or (bytes_in us) p 0 ≡ get_or us (p / 2) 0 / 256
odd_byte us p e =
    let half : suc (2 * (p / 2)) ≡ p = omega (arith, e) in
    ap (λ (n : ℕ). get_or (bytes_in us) n 0) (sym half) ∙ high_byte us (p / 2)
