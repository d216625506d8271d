-- Numbers of so many bits: what arithmetic gives has no more of them, and the words of an int or a long have 32.
use Rattle.std.proofs.Common.{◌≡◌, ℕ, zero, suc, ◌+◌, ◌-◌, ◌*◌, ◌/◌, ◌%◌, ◌^◌, ◌<◌, ◌≤◌, ◌⊎◌, inl, inr, Bool, true, false, ℤ, pos, negsuc, lit<, mod-lt, refl, sym, ap, ◌∙◌, subst, arith}
use Rattle.std.specs.Prelude.{int_div, int_lt, int_rem, neg_ℤ}
use mir.Val.{bits, hbits}
use Rattle.std.specs.Int.{Width, w8, w16, w32, w64, cast_signed, cast_unsigned, int_shr}
use Rattle.std.specs.Int.Signed.{mag, mag_rem}
use Rattle.std.specs.Int.Bits.{and_lt, or_lt, xor_lt}
use Rattle.std.proofs.lemmas.Bool.{cases_lt}
use Rattle.std.proofs.lemmas.Int.{to_z_pos}
use Rattle.std.proofs.lemmas.Nat.{shr_le}
use Rattle.std.proofs.Math.Facts.{to_z-neg}
use Rattle.std.proofs.Math.Nat.{div-le_self, mod-le}
use Rattle.dv_defs.specs.Numbers.{bits32, compare_long, from32, hi_of, lo_of, long_of, operate, operate32, operate64, sign_of, unary_at}
use Rattle.dv_defs.specs.Parts.{Bin, Unary}
use Rattle.dv_words.specs.Standing.{Fits, FitsInt}
use Rattle.dv_words.specs.Words.{int_of, word_of}

-- ---- two's complements

module _ (w : Width) (h : ℕ) (twice : 2 ^ suc h ≡ 2 * 2 ^ h) (is_pos : (n : ℕ) → n < 2 ^ h → cast_signed w n ≡ pos n) (is_negative : (k : ℕ) → k < 2 ^ h → cast_signed w (2 ^ suc h - suc k) ≡ negsuc k) where
  signed_within : (m : ℕ) → m < 2 ^ suc h → mag (cast_signed w m) < 2 ^ h
  signed_within m l = by (cases_lt m (2 ^ h))
    where
      by : (m < 2 ^ h) ⊎ (2 ^ h ≤ m) → mag (cast_signed w m) < 2 ^ h
      by (inl below) = subst (λ (x : ℤ). mag x < 2 ^ h) (sym (is_pos m below)) below
      by (inr above) =
          let k : ℕ = 2 ^ suc h - suc m in
          let back : 2 ^ suc h - suc k ≡ m = omega (arith, l) in
          let small : k < 2 ^ h = omega (arith, l, twice, above) in
          subst (λ (x : ℤ). mag x < 2 ^ h) (sym (is_negative k small) ∙ ap (cast_signed w) back) small

signed_8 : (m : ℕ) → m < 2 ^ 8 → mag (cast_signed w8 m) < 2 ^ 7
signed_8 = signed_within w8 7 refl (to_z_pos w8) (to_z-neg w8)

signed_16 : (m : ℕ) → m < 2 ^ 16 → mag (cast_signed w16 m) < 2 ^ 15
signed_16 = signed_within w16 15 refl (to_z_pos w16) (to_z-neg w16)

signed_32 : (m : ℕ) → m < 2 ^ 32 → mag (cast_signed w32 m) < 2 ^ 31
signed_32 = signed_within w32 31 refl (to_z_pos w32) (to_z-neg w32)

signed_64 : (m : ℕ) → m < 2 ^ 64 → mag (cast_signed w64 m) < 2 ^ 63
signed_64 = signed_within w64 63 refl (to_z_pos w64) (to_z-neg w64)

-- ---- the operations of a width

mag_less : (n m : ℕ) → n ≤ suc m → mag (neg_ℤ (pos n)) ≤ m
mag_less zero m l = omega arith
mag_less (suc n) m l = omega (arith, l)

-- -1 divides the least number to one more than the greatest
mag_div : (x y : ℤ) → mag (int_div x y) ≤ suc (mag x)
mag_div (pos a) (pos b) = let h = div-le_self a b in omega (arith, h)
mag_div (pos a) (negsuc b) = mag_less (a / suc b) (suc a) (let h = div-le_self a (suc b) in omega (arith, h))
mag_div (negsuc a) (pos b) = mag_less (suc a / b) (suc a) (let h = div-le_self (suc a) b in omega (arith, h))
mag_div (negsuc a) (negsuc b) = div-le_self (suc a) (suc b)

mag_of_rem : (x y : ℤ) → mag (int_rem x y) ≤ mag x
mag_of_rem (pos a) y = mag_rem (pos a) y
mag_of_rem (negsuc a) y = mag_less _ a (mod-le (suc a) _)

mag_shr : (x : ℤ) (k : ℕ) → mag (int_shr x k) ≤ mag x
mag_shr (pos n) k = shr_le n k
mag_shr (negsuc n) k = shr_le n k

module _ (w : Width) (some : 0 < 2 ^ bits w) (half : 2 ^ hbits w < 2 ^ bits w) (signed : (m : ℕ) → m < 2 ^ bits w → mag (cast_signed w m) < 2 ^ hbits w) where
  abbrev Within : ℤ → Type 0
  Within x = mag x < 2 ^ hbits w

  up_to : (x : ℤ) → mag x ≤ 2 ^ hbits w → cast_unsigned w x < 2 ^ bits w
  up_to (pos n) l = omega (arith, l, half)
  up_to (negsuc n) l = omega (arith, some)

  pub unsigned : (x : ℤ) → Within x → cast_unsigned w x < 2 ^ bits w
  unsigned x f = up_to x (omega (arith, f))

  rest_within : (m : ℕ) → Within (cast_signed w (m % 2 ^ bits w))
  rest_within m = signed (m % 2 ^ bits w) (mod-lt m some)

  pub operate_within : (size : ℕ) (o : Bin) (x y : ℤ) → Within x → Within y → Within (operate w size o x y)
  operate_within size Bin.Add x y f g = rest_within _
  operate_within size Bin.Sub x y f g = rest_within _
  operate_within size Bin.Rsub x y f g = rest_within _
  operate_within size Bin.Mul x y f g = rest_within _
  operate_within size Bin.Div x y f g = signed _ (up_to (int_div x y) (let h = mag_div x y in omega (arith, h, f)))
  operate_within size Bin.Rem x y f g = let h = mag_of_rem x y in omega (arith, h, f)
  operate_within size Bin.And x y f g = signed _ (and_lt (bits w) _ _ (unsigned x f) (unsigned y g))
  operate_within size Bin.Or x y f g = signed _ (or_lt (bits w) _ _ (unsigned x f) (unsigned y g))
  operate_within size Bin.Xor x y f g = signed _ (xor_lt (bits w) _ _ (unsigned x f) (unsigned y g))
  operate_within size Bin.Shl x y f g = rest_within _
  operate_within size Bin.Shr x y f g = let h = mag_shr x (bits32 y % size) in omega (arith, h, f)
  operate_within size Bin.Ushr x y f g = signed _ (let h = shr_le (cast_unsigned w x) (bits32 y % size) in let b = unsigned x f in omega (arith, h, b))

  pub unary_within : (o : Unary) (x : ℤ) → 2 ^ 16 ≤ 2 ^ hbits w → Within x → Within (unary_at w o x)
  unary_within Unary.Neg x l f = rest_within _
  unary_within Unary.Not x l f = signed _ (omega (arith, some))
  unary_within Unary.ToByte x l f = let h = signed_8 (bits32 x % 2 ^ 8) (mod-lt _ (lit< tt)) in omega (arith, h, l)
  unary_within Unary.ToChar x l f = let h : bits32 x % 2 ^ 16 < 2 ^ 16 = mod-lt _ (lit< tt) in omega (arith, h, l)
  unary_within Unary.ToShort x l f = let h = signed_16 (bits32 x % 2 ^ 16) (mod-lt _ (lit< tt)) in omega (arith, h, l)

-- ---- ints and longs

pub record IsInt (x : ℤ) : Type 0 where
  pub few : mag x < 2 ^ 31

pub record IsLong (x : ℤ) : Type 0 where
  pub few : mag x < 2 ^ 63

pub of_fitting : (x : ℤ) → FitsInt x → IsInt x
of_fitting (pos n) f = record { few = f }
of_fitting (negsuc n) f = record { few = f }

pub as_long : (x : ℤ) → IsInt x → IsLong x
as_long x f = record { few = omega (arith, f.few) }

pub int_is : (m : ℕ) → Fits m → IsInt (int_of m)
int_is m l = record { few = signed_32 m l }

pub from_is : (m : ℕ) → IsInt (from32 m)
from_is m = record { few = signed_32 (m % 2 ^ 32) (mod-lt m (lit< tt)) }

pub long_is : (low high : ℕ) → Fits low → Fits high → IsLong (long_of low high)
long_is low high l h = record { few = signed_64 (low + high * 2 ^ 32) (omega (arith, l, h)) }

pub int_result : (o : Bin) (x y : ℤ) → IsInt x → IsInt y → IsInt (operate32 o x y)
int_result o x y f g = record { few = operate_within w32 (lit< tt) (lit< tt) signed_32 32 o x y f.few g.few }

pub long_result : (o : Bin) (x y : ℤ) → IsLong x → IsLong y → IsLong (operate64 o x y)
long_result o x y f g = record { few = operate_within w64 (lit< tt) (lit< tt) signed_64 64 o x y f.few g.few }

pub int_unary : (o : Unary) (x : ℤ) → IsInt x → IsInt (unary_at w32 o x)
int_unary o x f = record { few = unary_within w32 (lit< tt) (lit< tt) signed_32 o x (omega arith) f.few }

pub long_unary : (o : Unary) (x : ℤ) → IsLong x → IsLong (unary_at w64 o x)
long_unary o x f = record { few = unary_within w64 (lit< tt) (lit< tt) signed_64 o x (omega arith) f.few }

pub comparison : (x y : ℤ) → IsInt (compare_long x y)
comparison x y = by (int_lt x y) (int_lt y x)
  where
    by : (a b : Bool) → IsInt (sign_of a b)
    by true b = record { few = omega arith }
    by false true = record { few = omega arith }
    by false false = record { few = omega arith }

-- their words have 32 bits
pub word_fits : (x : ℤ) → IsInt x → Fits (word_of x)
word_fits x f = unsigned w32 (lit< tt) (lit< tt) signed_32 x f.few

pub low_fits : (x : ℤ) → Fits (lo_of x)
low_fits x = mod-lt _ (lit< tt)

pub high_fits : (x : ℤ) → IsLong x → Fits (hi_of x)
high_fits x f = let h = unsigned w64 (lit< tt) (lit< tt) signed_64 x f.few in omega (arith, h)
