-- An instruction that has a spelling with offset and index 0 has one with each offset and index that fits.
use Rattle.std.proofs.Common.{◌≡◌, ◌<◌, ◌^◌, ℕ, ℤ, pos, true, false, Option, Some, None, IsSome, refl, sym, subst, arith}
use Rattle.dv_defs.specs.declared.code.Insn.{Insn}
use Rattle.dv_defs.specs.Formats.{Format, F10x, F12x, F11n, F11x, F10t, F20t, F22x, F21t, F21s, F21h, F21c, F23x, F22b, F22t, F22s, F22c, F30t, F32x, F31i, F31t, F31c, F35c, F3rc, F51l, format_at}
use Rattle.dv_defs.specs.Spelling.{spelling, spelling_in, spelling_by, fits_in, fits_signed, spelling_10t, spelling_20t, spelling_21t, spelling_22t, spelling_30t, spelling_31t, spelling_21c, spelling_22c, spelling_31c, spelling_35c, spelling_3rc}
use Rattle.dv_defs.proofs.InsnEq.{form_tests}
use Rattle.std.specs.Prelude.{unwrap_or}
use Rattle.dv_defs.specs.Formats.{has_offset, has_index, offset_in}
use Rattle.dv_asm.specs.Refusals.{with_operands}

offset_10t : (i : Insn) (off : ℤ) → IsSome (spelling_10t (with_operands i (pos 0) 0)) → fits_signed 8 off ≡ true → IsSome (spelling_10t (with_operands i off 0))
offset_10t i off zero fitting = grind (arith, form_tests)

offset_20t : (i : Insn) (off : ℤ) → IsSome (spelling_20t (with_operands i (pos 0) 0)) → fits_signed 16 off ≡ true → IsSome (spelling_20t (with_operands i off 0))
offset_20t i off zero fitting = grind (arith, form_tests)

offset_21t : (i : Insn) (off : ℤ) → IsSome (spelling_21t (with_operands i (pos 0) 0)) → fits_signed 16 off ≡ true → IsSome (spelling_21t (with_operands i off 0))
offset_21t i off zero fitting = grind (arith, form_tests)

offset_22t : (i : Insn) (off : ℤ) → IsSome (spelling_22t (with_operands i (pos 0) 0)) → fits_signed 16 off ≡ true → IsSome (spelling_22t (with_operands i off 0))
offset_22t i off zero fitting = grind (arith, form_tests)

offset_30t : (i : Insn) (off : ℤ) → IsSome (spelling_30t (with_operands i (pos 0) 0)) → fits_signed 32 off ≡ true → IsSome (spelling_30t (with_operands i off 0))
offset_30t i off zero fitting = grind (arith, form_tests)

offset_31t : (i : Insn) (off : ℤ) → IsSome (spelling_31t (with_operands i (pos 0) 0)) → fits_signed 32 off ≡ true → IsSome (spelling_31t (with_operands i off 0))
offset_31t i off zero fitting = grind (arith, form_tests)

index_21c : (i : Insn) (index : ℕ) → IsSome (spelling_21c (with_operands i (pos 0) 0)) → fits_in 16 index ≡ true → IsSome (spelling_21c (with_operands i (pos 0) index))
index_21c i index zero fitting = grind (arith, form_tests)

index_22c : (i : Insn) (index : ℕ) → IsSome (spelling_22c (with_operands i (pos 0) 0)) → fits_in 16 index ≡ true → IsSome (spelling_22c (with_operands i (pos 0) index))
index_22c i index zero fitting = grind (arith, form_tests)

index_31c : (i : Insn) (index : ℕ) → IsSome (spelling_31c (with_operands i (pos 0) 0)) → fits_in 32 index ≡ true → IsSome (spelling_31c (with_operands i (pos 0) index))
index_31c i index zero fitting = grind (arith, form_tests)

index_35c : (i : Insn) (index : ℕ) → IsSome (spelling_35c (with_operands i (pos 0) 0)) → fits_in 16 index ≡ true → IsSome (spelling_35c (with_operands i (pos 0) index))
index_35c i index zero fitting = grind (arith, form_tests)

index_3rc : (i : Insn) (index : ℕ) → IsSome (spelling_3rc (with_operands i (pos 0) 0)) → fits_in 16 index ≡ true → IsSome (spelling_3rc (with_operands i (pos 0) index))
index_3rc i index zero fitting = grind (arith, form_tests)

-- the offset fits the format's, and is 0 where the format has none
pub record OffsetFits (format : Option Format) (off : ℤ) : Type 0 where
  pub fitting : has_offset format ≡ true → fits_signed (unwrap_or (offset_in format) 32) off ≡ true
  pub none : has_offset format ≡ false → off ≡ pos 0

-- the index fits 16 bits, and is 0 where the format has none
pub record IndexFits (format : Option Format) (index : ℕ) : Type 0 where
  pub small : index < 2 ^ 16
  pub none : has_index format ≡ false → index ≡ 0

fits_16 : (n : ℕ) → n < 2 ^ 16 → fits_in 16 n ≡ true
fits_16 n small = grind (arith, form_tests)

fits_32 : (n : ℕ) → n < 2 ^ 16 → fits_in 32 n ≡ true
fits_32 n small = grind (arith, form_tests)

abbrev Respells : Format → Insn → ℤ → ℕ → Type 0
Respells f i off index = IsSome (spelling_in f (with_operands i off index))

plain : (f : Format) (i : Insn) (off : ℤ) (index : ℕ) → off ≡ pos 0 → index ≡ 0 → Respells f i (pos 0) 0 → Respells f i off index
plain f i off index e d zero =
    let P : ℤ → Type 0 = λ o. Respells f i o 0 in
    let Q : ℕ → Type 0 = λ n. Respells f i off n in
    subst Q (sym d) (subst P (sym e) zero)

branch : (f : Format) (i : Insn) (off : ℤ) (index : ℕ) → index ≡ 0 → Respells f i off 0 → Respells f i off index
branch f i off index d there = let Q : ℕ → Type 0 = λ n. Respells f i off n in subst Q (sym d) there

named : (f : Format) (i : Insn) (off : ℤ) (index : ℕ) → off ≡ pos 0 → Respells f i (pos 0) index → Respells f i off index
named f i off index e there = let P : ℤ → Type 0 = λ o. Respells f i o index in subst P (sym e) there

respelled_in : (f : Format) (i : Insn) (off : ℤ) (index : ℕ) → OffsetFits (Some f) off → IndexFits (Some f) index → Respells f i (pos 0) 0 → Respells f i off index
respelled_in F10t i off index o n zero = branch F10t i off index (n.none refl) (offset_10t i off zero (o.fitting refl))
respelled_in F20t i off index o n zero = branch F20t i off index (n.none refl) (offset_20t i off zero (o.fitting refl))
respelled_in F21t i off index o n zero = branch F21t i off index (n.none refl) (offset_21t i off zero (o.fitting refl))
respelled_in F22t i off index o n zero = branch F22t i off index (n.none refl) (offset_22t i off zero (o.fitting refl))
respelled_in F30t i off index o n zero = branch F30t i off index (n.none refl) (offset_30t i off zero (o.fitting refl))
respelled_in F31t i off index o n zero = branch F31t i off index (n.none refl) (offset_31t i off zero (o.fitting refl))
respelled_in F21c i off index o n zero = named F21c i off index (o.none refl) (index_21c i index zero (fits_16 index n.small))
respelled_in F22c i off index o n zero = named F22c i off index (o.none refl) (index_22c i index zero (fits_16 index n.small))
respelled_in F31c i off index o n zero = named F31c i off index (o.none refl) (index_31c i index zero (fits_32 index n.small))
respelled_in F35c i off index o n zero = named F35c i off index (o.none refl) (index_35c i index zero (fits_16 index n.small))
respelled_in F3rc i off index o n zero = named F3rc i off index (o.none refl) (index_3rc i index zero (fits_16 index n.small))
respelled_in F10x i off index o n zero = plain F10x i off index (o.none refl) (n.none refl) zero
respelled_in F12x i off index o n zero = plain F12x i off index (o.none refl) (n.none refl) zero
respelled_in F11n i off index o n zero = plain F11n i off index (o.none refl) (n.none refl) zero
respelled_in F11x i off index o n zero = plain F11x i off index (o.none refl) (n.none refl) zero
respelled_in F22x i off index o n zero = plain F22x i off index (o.none refl) (n.none refl) zero
respelled_in F21s i off index o n zero = plain F21s i off index (o.none refl) (n.none refl) zero
respelled_in F21h i off index o n zero = plain F21h i off index (o.none refl) (n.none refl) zero
respelled_in F23x i off index o n zero = plain F23x i off index (o.none refl) (n.none refl) zero
respelled_in F22b i off index o n zero = plain F22b i off index (o.none refl) (n.none refl) zero
respelled_in F22s i off index o n zero = plain F22s i off index (o.none refl) (n.none refl) zero
respelled_in F32x i off index o n zero = plain F32x i off index (o.none refl) (n.none refl) zero
respelled_in F31i i off index o n zero = plain F31i i off index (o.none refl) (n.none refl) zero
respelled_in F51l i off index o n zero = plain F51l i off index (o.none refl) (n.none refl) zero

by_format : (format : Option Format) (i : Insn) (off : ℤ) (index : ℕ) → OffsetFits format off → IndexFits format index → IsSome (spelling_by format (with_operands i (pos 0) 0)) → IsSome (spelling_by format (with_operands i off index))
by_format None i off index o n zero = zero
by_format (Some f) i off index o n zero = respelled_in f i off index o n zero

pub respelled : (i : Insn) (off : ℤ) (index : ℕ) → OffsetFits (format_at i.op) off → IndexFits (format_at i.op) index → IsSome (spelling (with_operands i (pos 0) 0)) → IsSome (spelling (with_operands i off index))
respelled i off index o n zero = by_format (format_at i.op) i off index o n zero
