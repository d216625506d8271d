-- Two's complement.
use Rattle.std.proofs.Common.{◌≡◌, ℕ, ◌+◌, ◌-◌, ◌*◌, ◌%◌, ◌^◌, ◌<◌, ◌≤◌, suc, zero, IsTrue, true, ℤ, pos, negsuc, ◌+ℤ◌, to_z, of_z, w64, arith, sub-one, lit<}
use Rattle.std.proofs.Math.Nat.{pow-suc, pow-le-pow_right}
use Rattle.std.proofs.lemmas.Int.{ints}
use Rattle.std.proofs.lemmas.Bool.{ltb-true}
use Rattle.dv_defs.specs.Spelling.{complement, fits_signed}
use lib.Signed.{lt_z}

doubled : (bits : ℕ) → 1 ≤ bits → 2 ^ bits ≡ 2 ^ (bits - 1) + 2 ^ (bits - 1)
doubled zero h = absurd (omega arith)
doubled (suc k) h = rw sub-one (omega (arith, pow-suc 2 k))

small : (bits : ℕ) → bits ≤ 32 → 2 ^ bits ≤ 2 ^ 32
small bits h = pow-le-pow_right (lit< tt) h

lifted : (n half pow : ℕ) → n < half → pow ≡ half + half → pow ≤ 2 ^ 32 → to_z w64 (of_z w64 (to_z w64 (of_z w64 (negsuc n)) +ℤ to_z w64 (1 * pow % 18446744073709551616))) ≡ pos (pow - suc n)
lifted n half pow a e b = omega (arith, ints)

not_negative : (n half pow : ℕ) → n < half → pow ≡ half + half → pow ≤ 2 ^ 32 → lt_z (to_z w64 (of_z w64 (pos n))) (pos 0) ≡ true → ⊥
not_negative n half pow a e b l = grind (arith, ints)

pub complement_of_negative : (bits : ℕ) (x : ℤ) → 1 ≤ bits → bits ≤ 32 → IsTrue (fits_signed bits x) → lt_z (to_z w64 (of_z w64 x)) (pos 0) ≡ true → (to_z w64 (of_z w64 (to_z w64 (of_z w64 x) +ℤ to_z w64 (1 * 2 ^ bits % 18446744073709551616))) ≡ pos (complement bits x)) × (complement bits x < 2 ^ 32)
complement_of_negative bits (pos n) a b h l = absurd (not_negative n (2 ^ (bits - 1)) (2 ^ bits) (ltb-true _ _ h) (doubled bits a) (small bits b) l)
complement_of_negative bits (negsuc n) a b h l = (lifted n (2 ^ (bits - 1)) (2 ^ bits) (ltb-true _ _ h) (doubled bits a) (small bits b), omega (arith, small bits b))
