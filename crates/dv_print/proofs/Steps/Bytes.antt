-- Numbers of at most eight bytes.
use Rattle.std.proofs.Common.{ℕ, ◌<◌, ◌≤◌, ◌^◌, arith, lit<}
use Rattle.std.proofs.Math.Nat.{pow-le-pow_right}

-- a number of at most seven bytes has at most 56 bits
pub few_bytes : (n r : ℕ) → n ≤ 7 → r < 256 ^ n → r < 2 ^ 56
few_bytes n r h s =
    let positive : 0 < 256 = lit< tt in
    let most : 256 ^ n ≤ 256 ^ 7 = pow-le-pow_right positive h in
    omega (arith, most)
