-- What the machine's operations on ints give is an int of 32 bits, which is the number of its word.
use Rattle.std.proofs.Common.{◌≡◌, ℕ, zero, suc, ◌-◌, ◌*◌, ◌/◌, ◌%◌, ◌^◌, ◌<◌, ◌≤◌, ◌⊎◌, inl, inr, Bool, true, false, ℤ, pos, negsuc, lit<, mod-lt, refl, sym, ap, ◌∙◌, subst, arith}
use Rattle.std.specs.Prelude.{int_lt, int_rem, int_div, neg_ℤ}
use Rattle.std.specs.Int.{Width, w8, w16, w32, cast_signed, int_shr}
use Rattle.std.specs.Int.Signed.{mag, mag_rem}
use Rattle.std.specs.Int.Bits.{and_lt, or_lt, xor_lt}
use Rattle.std.proofs.lemmas.Bool.{cases_lt}
use Rattle.std.proofs.lemmas.Int.{of_z-to_z, to_z_pos}
use Rattle.std.proofs.lemmas.Nat.{shr_le}
use Rattle.std.proofs.Math.Facts.{to_z-neg}
use Rattle.std.proofs.Math.Nat.{div-le_self, mod-le}
use Rattle.dv_machine.specs.Value as v
use Rattle.dv_defs.specs.Numbers.{bits32, compare_long, from32, operate32, sign_of, unary_at}
use Rattle.dv_defs.specs.Parts.{Bin, Unary}
use Rattle.law_words.proofs.Erasing.{to_word}
use Rattle.dv_words.specs.Standing.{Fits, FitsInt}
use Rattle.dv_words.specs.Words.{int_of, word_of}

-- a number that its word gives back
abbrev pub IsAgain : ℤ → Type 0
IsAgain n = int_of (word_of n) ≡ n

pub again : (n : ℤ) → FitsInt n → IsAgain n
again n l = to_word (word_of n) (v.Num n) l refl

-- ---- two's complements

-- read as a signed number of h + 1 bits
module _ (w : Width) (h : ℕ) (few : 2 ^ h ≤ 2 ^ 31) (twice : 2 ^ suc h ≡ 2 * 2 ^ h) (is_pos : (n : ℕ) → n < 2 ^ h → cast_signed w n ≡ pos n) (is_negative : (k : ℕ) → k < 2 ^ h → cast_signed w (2 ^ suc h - suc k) ≡ negsuc k) where
  pub signed_fits : (m : ℕ) → m < 2 ^ suc h → FitsInt (cast_signed w m)
  signed_fits m l = by (cases_lt m (2 ^ h))
    where
      by : (m < 2 ^ h) ⊎ (2 ^ h ≤ m) → FitsInt (cast_signed w m)
      by (inl below) = subst FitsInt (sym (is_pos m below)) (omega (arith, few, below))
      by (inr above) =
          let k : ℕ = 2 ^ suc h - suc m in
          let back : 2 ^ suc h - suc k ≡ m = omega (arith, l) in
          let small : k < 2 ^ h = omega (arith, l, twice, above) in
          subst FitsInt (sym (is_negative k small) ∙ ap (cast_signed w) back) (omega (arith, few, small))

pub byte_fits : (m : ℕ) → m < 2 ^ 8 → FitsInt (cast_signed w8 m)
byte_fits = signed_fits w8 7 (omega arith) refl (to_z_pos w8) (to_z-neg w8)

pub short_fits : (m : ℕ) → m < 2 ^ 16 → FitsInt (cast_signed w16 m)
short_fits = signed_fits w16 15 (omega arith) refl (to_z_pos w16) (to_z-neg w16)

pub int_fits : (m : ℕ) → Fits m → FitsInt (int_of m)
int_fits = signed_fits w32 31 (omega arith) refl (to_z_pos w32) (to_z-neg w32)

cast_again : (m : ℕ) → m < 2 ^ 32 → IsAgain (cast_signed w32 m)
cast_again m l = ap int_of (of_z-to_z w32 m l)

-- ---- the operations

below_whole : (n : ℤ) → mag n ≤ 2 ^ 31 → bits32 n < 2 ^ 32
below_whole (pos n) l = omega (arith, l)
below_whole (negsuc n) l = omega arith

mag_fits : (n : ℤ) → FitsInt n → mag n ≤ 2 ^ 31
mag_fits (pos n) l = omega (arith, l)
mag_fits (negsuc n) l = omega (arith, l)

pub bits_small : (n : ℤ) → FitsInt n → bits32 n < 2 ^ 32
bits_small n l = below_whole n (mag_fits n l)

less : (n m : ℕ) → n ≤ m → m ≤ 2 ^ 31 → FitsInt (neg_ℤ (pos n))
less zero m l k = omega arith
less (suc n) m l k = omega (arith, l, k)

rem_fits : (x y : ℤ) → FitsInt x → FitsInt (int_rem x y)
rem_fits (pos a) y f = let h = mag_rem (pos a) y in omega (arith, h, f)
rem_fits (negsuc a) y f = less _ (suc a) (mod-le (suc a) _) (omega (arith, f))

shr_fits : (x : ℤ) (k : ℕ) → FitsInt x → FitsInt (int_shr x k)
shr_fits (pos n) k l = omega (arith, l, shr_le n k)
shr_fits (negsuc n) k l = omega (arith, l, shr_le n k)

mag_less : (n : ℕ) → n ≤ 2 ^ 31 → mag (neg_ℤ (pos n)) ≤ 2 ^ 31
mag_less zero l = omega arith
mag_less (suc n) l = omega (arith, l)

div_below : (x y : ℤ) → FitsInt x → mag (int_div x y) ≤ 2 ^ 31
div_below (pos a) (pos b) f = let h = div-le_self a b in omega (arith, h, f)
div_below (pos a) (negsuc b) f = mag_less (a / suc b) (let h = div-le_self a (suc b) in omega (arith, h, f))
div_below (negsuc a) (pos b) f = mag_less (suc a / b) (let h = div-le_self (suc a) b in omega (arith, h, f))
div_below (negsuc a) (negsuc b) f = let h = div-le_self (suc a) (suc b) in omega (arith, h, f)

pub operate_again : (o : Bin) (x y : ℤ) → FitsInt x → FitsInt y → IsAgain (operate32 o x y)
operate_again Bin.Add x y f g = cast_again _ (mod-lt _ (lit< tt))
operate_again Bin.Sub x y f g = cast_again _ (mod-lt _ (lit< tt))
operate_again Bin.Rsub x y f g = cast_again _ (mod-lt _ (lit< tt))
operate_again Bin.Mul x y f g = cast_again _ (mod-lt _ (lit< tt))
operate_again Bin.Div x y f g = cast_again _ (below_whole (int_div x y) (div_below x y f))
operate_again Bin.Rem x y f g = again _ (rem_fits x y f)
operate_again Bin.And x y f g = cast_again _ (and_lt 32 _ _ (bits_small x f) (bits_small y g))
operate_again Bin.Or x y f g = cast_again _ (or_lt 32 _ _ (bits_small x f) (bits_small y g))
operate_again Bin.Xor x y f g = cast_again _ (xor_lt 32 _ _ (bits_small x f) (bits_small y g))
operate_again Bin.Shl x y f g = cast_again _ (mod-lt _ (lit< tt))
operate_again Bin.Shr x y f g = again _ (shr_fits x _ f)
operate_again Bin.Ushr x y f g = cast_again _ (let h = bits_small x f in let s = shr_le (bits32 x) (bits32 y % 32) in omega (arith, h, s))

pub unary_again : (o : Unary) (x : ℤ) → FitsInt x → IsAgain (unary_at w32 o x)
unary_again Unary.Neg x f = cast_again _ (mod-lt _ (lit< tt))
unary_again Unary.Not x f = cast_again _ (omega arith)
unary_again Unary.ToByte x f = again _ (byte_fits _ (mod-lt _ (lit< tt)))
unary_again Unary.ToChar x f = again _ (let h : bits32 x % 2 ^ 16 < 2 ^ 16 = mod-lt _ (lit< tt) in omega (arith, h))
unary_again Unary.ToShort x f = again _ (short_fits _ (mod-lt _ (lit< tt)))

pub from_again : (n : ℕ) → IsAgain (from32 n)
from_again n = cast_again _ (mod-lt n (lit< tt))

pub compare_again : (x y : ℤ) → IsAgain (compare_long x y)
compare_again x y = by (int_lt x y) (int_lt y x)
  where
    by : (a b : Bool) → IsAgain (sign_of a b)
    by true b = refl
    by false true = refl
    by false false = refl
