-- What a store keeps of a word stands for what it keeps of the value.
use Rattle.std.proofs.Common.{◌≡◌, ℕ, ◌%◌, ◌^◌, ◌<◌, Bool, true, false, ℤ, pos, mod-lt, lit<, refl, ap, ◌∙◌, subst, arith}
use Rattle.std.specs.Prelude.{if◌then◌else◌, ◌||◌}
use Rattle.std.specs.Int.{w32}
use Rattle.std.proofs.lemmas.Bool.{and_parts}
use Rattle.std.proofs.lemmas.Int.{of_z-to_z}
use Rattle.dv_defs.specs.declared.names.Base.{Base}
use Rattle.dv_defs.specs.declared.names.Base.TheVariants as base
use Rattle.dv_defs.specs.declared.names.Ty.{Ty}
use Rattle.dv_machine.specs.Value as v
use Rattle.dv_defs.specs.Numbers.{bits32}
use Rattle.dv_defs.specs.Types.{base_eq, is_array, is_class_base, is_long, is_reference}
use Rattle.dv_machine.specs.Mem as machine
use Rattle.dv_machine.specs.Mem.{narrowed_number}
use Rattle.dv_words.specs.Standing.{Fits, FitsInt, IsWord}
use Rattle.dv_words.specs.Words.{int_of, word_of}
use Rattle.dv_words.specs.Mem.{narrowed}
use Rattle.law_words.proofs.Numbers.{IsAgain, again, byte_fits, int_fits, short_fits}

number_again : (b : Base) (n : ℤ) → FitsInt n → IsAgain (narrowed_number b n)
number_again base.Z n l = again _ (let h : bits32 n % 2 < 2 = mod-lt _ (lit< tt) in omega (arith, h))
number_again base.B n l = again _ (byte_fits _ (mod-lt _ (lit< tt)))
number_again base.C n l = again _ (let h : bits32 n % 2 ^ 16 < 2 ^ 16 = mod-lt _ (lit< tt) in omega (arith, h))
number_again base.S n l = again _ (short_fits _ (mod-lt _ (lit< tt)))
number_again base.I n l = again n l
number_again base.J n l = again n l
number_again (base.Class name) n l = again n l

zero_number : (b : Base) → word_of (narrowed_number b (pos 0)) ≡ 0
zero_number base.Z = refl
zero_number base.B = refl
zero_number base.C = refl
zero_number base.S = refl
zero_number base.I = refl
zero_number base.J = refl
zero_number (base.Class name) = refl

-- by whether the type is an array's
abbrev by_array : Bool → Base → ℕ → ℕ
by_array b t w = if b then w else word_of (narrowed_number t (int_of w))

abbrev number_by : Bool → Base → ℤ → ℤ
number_by b t n = if b then n else narrowed_number t n

narrow_zero : (b : Bool) (t : Base) → by_array b t 0 ≡ 0
narrow_zero true t = refl
narrow_zero false t = zero_number t

narrow_number : (b : Bool) (t : Base) (w : ℕ) (n : ℤ) → FitsInt n → int_of w ≡ n → int_of (by_array b t w) ≡ number_by b t n
narrow_number true t w n l is = is
narrow_number false t w n l is = ap (λ m. int_of (word_of (narrowed_number t m))) is ∙ number_again t n l

pub zero_narrowed : (t : Ty) (w : ℕ) → IsWord w v.Zero → IsWord (narrowed t w) (machine.narrowed t v.Zero)
zero_narrowed t w is = ap (narrowed t) is ∙ narrow_zero (is_array t) t.base

pub number_narrowed : (t : Ty) (w : ℕ) (n : ℤ) → Fits w → IsWord w (v.Num n) → IsWord (narrowed t w) (machine.narrowed t (v.Num n))
number_narrowed t w n f is = narrow_number (is_array t) t.base w n (subst FitsInt is (int_fits w f)) is

-- the word of a number of no narrow type is kept whole
kept_whole : (w : ℕ) → Fits w → word_of (int_of w) ≡ w
kept_whole w f = of_z-to_z w32 w f

by_base : (b : Bool) (t : Base) (w : ℕ) → Fits w → ((m : ℤ) → narrowed_number t m ≡ m) → by_array b t w ≡ w
by_base true t w f whole = refl
by_base false t w f whole = ap word_of (whole (int_of w)) ∙ kept_whole w f

array_or_class : (b : Bool) (t : Base) (w : ℕ) → Fits w → (b || is_class_base t) ≡ true → by_array b t w ≡ w
array_or_class true t w f is = refl
array_or_class false (base.Class name) w f is = kept_whole w f
array_or_class false t w f is = absurd (cc)

pub reference_narrowed : (t : Ty) (w : ℕ) → is_reference t ≡ true → Fits w → narrowed t w ≡ w
reference_narrowed t w is f = array_or_class (is_array t) t.base w f is

long_base : (b : Bool) (t : Base) (w : ℕ) → Fits w → base_eq t base.J ≡ true → by_array b t w ≡ w
long_base b base.J w f is = by_base b base.J w f (λ m. refl)
long_base b t w f is = absurd (cc)

pub long_narrowed : (t : Ty) (w : ℕ) → is_long t ≡ true → Fits w → narrowed t w ≡ w
long_narrowed t w is f = long_base (is_array t) t.base w f (and_parts _ _ is).1
