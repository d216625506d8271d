-- Two's complement and the signed number of its bits are each other's inverse.
use Rattle.std.proofs.Common.{◌≡◌, ℕ, ◌+◌, ◌-◌, ◌<◌, ◌≤◌, ◌^◌, suc, zero, ℤ, pos, negsuc, Bool, true, false, refl, ap, ◌∙◌, arith, sub-one}
use Rattle.std.proofs.Math.Nat.{pow-suc}
use Rattle.std.proofs.lemmas.Bool.{ltb-true, ltb-false, lt-ltb, le-ltb}
use Rattle.std.specs.Prelude.{nat_lt}
use Rattle.dv_defs.specs.Numbers.{signed_at}
use Rattle.dv_defs.specs.Spelling.{complement, fits_signed}

doubled : (bits : ℕ) → 1 ≤ bits → 2 ^ bits ≡ 2 ^ (bits - 1) + 2 ^ (bits - 1)
doubled zero h = absurd (omega arith)
doubled (suc k) h = rw sub-one (omega (arith, pow-suc 2 k))

abbrev by_half : Bool → ℕ → ℕ → ℤ
by_half b bits n = elim b [ true ↦ pos n | false ↦ negsuc (2 ^ bits - suc n) ]

complement_by : (b : Bool) (bits n : ℕ) → n < 2 ^ bits → complement bits (by_half b bits n) ≡ n
complement_by true bits n h = refl
complement_by false bits n h = omega arith

pub complement_of_signed : (bits n : ℕ) → n < 2 ^ bits → complement bits (signed_at bits n) ≡ n
complement_of_signed bits n h = complement_by (nat_lt n (2 ^ (bits - 1))) bits n h

fits_by : (b : Bool) (bits n : ℕ) → 1 ≤ bits → n < 2 ^ bits → nat_lt n (2 ^ (bits - 1)) ≡ b → fits_signed bits (by_half b bits n) ≡ true
fits_by true bits n a h e = e
fits_by false bits n a h e = lt-ltb _ _ (omega (arith, doubled bits a, ltb-false _ _ e))

pub signed_fits : (bits n : ℕ) → 1 ≤ bits → n < 2 ^ bits → fits_signed bits (signed_at bits n) ≡ true
signed_fits bits n a h = fits_by (nat_lt n (2 ^ (bits - 1))) bits n a h refl

pub complement_small : (bits : ℕ) (x : ℤ) → 1 ≤ bits → fits_signed bits x ≡ true → complement bits x < 2 ^ bits
complement_small bits (pos n) a h = omega (arith, doubled bits a, ltb-true _ _ h)
complement_small bits (negsuc n) a h = omega (arith, doubled bits a, ltb-true _ _ h)

of_negative : (bits n : ℕ) → 1 ≤ bits → n < 2 ^ (bits - 1) → by_half (nat_lt (2 ^ bits - suc n) (2 ^ (bits - 1))) bits (2 ^ bits - suc n) ≡ negsuc n
of_negative bits n a h =
    let d = doubled bits a in
    let e : nat_lt (2 ^ bits - suc n) (2 ^ (bits - 1)) ≡ false = le-ltb _ _ (omega (arith, d)) in
    let k : 2 ^ bits - suc (2 ^ bits - suc n) ≡ n = omega (arith, d) in
    ap (λ b. by_half b bits (2 ^ bits - suc n)) e ∙ ap negsuc k

pub signed_of_complement : (bits : ℕ) (x : ℤ) → 1 ≤ bits → fits_signed bits x ≡ true → signed_at bits (complement bits x) ≡ x
signed_of_complement bits (pos n) a h = ap (λ b. by_half b bits n) h
signed_of_complement bits (negsuc n) a h = of_negative bits n a (ltb-true _ _ h)
