-- What the number of a field's value is read as, by the type.
use Rattle.std.proofs.Common.{◌≡◌, ℕ, suc, ◌^◌, ◌<◌, ◌≤◌, Bool, true, false, nat_eq, List, Option, Some, None, Result, Ok, Err, refl, sym, ap, ◌∙◌, arith}
use Rattle.std.specs.Prelude.{ℤ, pos, negsuc, nat_le}
use Rattle.std.proofs.lemmas.Bool.{and_left, and_right, cond-false, lt-leb}
use Rattle.dv_defs.specs.declared.class.Init.{Init}
use Rattle.dv_defs.specs.declared.class.Init.TheVariants as init
use Rattle.dv_defs.specs.declared.faults.LineKind.{LineKind}
use Rattle.dv_defs.specs.declared.faults.LineKind.TheVariants.{NumberRange, Operands}
use Rattle.dv_defs.specs.declared.names.Base.{Base}
use Rattle.dv_defs.specs.declared.names.Base.TheVariants as base
use Rattle.dv_defs.specs.declared.names.Ty.{Ty}
use Rattle.dv_defs.specs.Field.{number_fits, value_fits}
use Rattle.dv_lex.specs.Numbers.{Number}
use Rattle.dv_coderead.specs.BodyLines.{by_value}
use Rattle.dv_coderead.specs.Giving.{◌>>=◌}
use Rattle.dv_coderead.specs.Words.{literal_in, number_in, number_of}
use Rattle.dv_coderead.proofs.Values.{HasBits, refused, within}
use Rattle.dv_classread.specs.ClassLines.{fitting_value, number_value}
use Rattle.dv_classread.specs.FieldBits.{bits_of}

-- ---- types of at most 16 bits, and types without numbers

-- no such type has a number of more bits
record IsNarrow (b : Base) : Type 0 where
  above : (m : ℕ) → 2 ^ 32 ≤ m → number_fits b (pos m) ≡ false
  below : (m : ℕ) → 2 ^ 32 ≤ suc m → number_fits b (negsuc m) ≡ false

narrow_boolean : IsNarrow base.Z
narrow_boolean = record { above = λ m large. and_right (nat_le 0 m) (nat_le m 1) (lt-leb _ _ (omega arith)); below = λ m large. refl }

narrow_byte : IsNarrow base.B
narrow_byte = record { above = λ m large. lt-leb _ _ (omega arith); below = λ m large. and_left (nat_le m 127) true (lt-leb _ _ (omega arith)) }

narrow_char : IsNarrow base.C
narrow_char = record { above = λ m large. and_right (nat_le 0 m) (nat_le m 65535) (lt-leb _ _ (omega arith)); below = λ m large. refl }

narrow_short : IsNarrow base.S
narrow_short = record { above = λ m large. lt-leb _ _ (omega arith); below = λ m large. and_left (nat_le m 32767) true (lt-leb _ _ (omega arith)) }

narrow_class : (name : List ℕ) → IsNarrow (base.Class name)
narrow_class name = record { above = λ m large. refl; below = λ m large. refl }

-- ---- the value of a number

-- a number as a value of this type
abbrev as_value : Ty → ℤ → Result Init LineKind
as_value t z = fitting_value t (init.Num z)

abbrev type_of : ℕ → Base → Ty
type_of dims b = record { dims = dims; base = b }

module _ (dims : ℕ) (b : Base) (narrow : IsNarrow b) where
  too_large : (z : ℤ) → number_fits b z ≡ false → as_value (type_of dims b) z ≡ Err NumberRange
  too_large z out = cond-false (value_fits (init.Num z) (type_of dims b)) _ _ (and_right (nat_eq dims 0) _ out)

  narrow_bits : HasBits (as_value (type_of dims b)) 33
  narrow_bits = record {
    no = refl;
    some = omega arith;
    above = λ m large. too_large (pos m) (narrow.above m large);
    below = λ m large. too_large (negsuc m) (narrow.below m large);
  }

  narrow_within : (o : Option Number) (z : ℤ) → number_of 33 o ≡ Ok z → by_value (as_value (type_of dims b)) o ≡ as_value (type_of dims b) z
  narrow_within o z is = within (as_value (type_of dims b)) 33 narrow_bits o z is

  narrow_refused : (o : Option Number) (k : LineKind) → number_of 33 o ≡ Err k → by_value (as_value (type_of dims b)) o ≡ Err k
  narrow_refused o k is = refused (as_value (type_of dims b)) 33 narrow_bits o k is

-- what is read in the bits of a type is its value
within_by : (dims : ℕ) (b : Base) (o : Option Number) (z : ℤ) → number_of (bits_of b) o ≡ Ok z → number_value (type_of dims b) o ≡ as_value (type_of dims b) z
within_by dims b None z is = absurd (cc)
within_by dims base.I (Some n) z is = ap (λ r. r >>= as_value (type_of dims base.I)) is
within_by dims base.J (Some n) z is = ap (λ r. r >>= as_value (type_of dims base.J)) is
within_by dims base.Z (Some n) z is = narrow_within dims base.Z narrow_boolean (Some n) z is
within_by dims base.B (Some n) z is = narrow_within dims base.B narrow_byte (Some n) z is
within_by dims base.C (Some n) z is = narrow_within dims base.C narrow_char (Some n) z is
within_by dims base.S (Some n) z is = narrow_within dims base.S narrow_short (Some n) z is
within_by dims (base.Class name) (Some n) z is = narrow_within dims (base.Class name) (narrow_class name) (Some n) z is

-- and what is refused there is no value
refused_by : (dims : ℕ) (b : Base) (o : Option Number) (k : LineKind) → number_of (bits_of b) o ≡ Err k → number_value (type_of dims b) o ≡ Err k
refused_by dims b None k is = let same : k ≡ Operands = cc in ap Err (sym same)
refused_by dims base.I (Some n) k is = ap (λ r. r >>= as_value (type_of dims base.I)) is
refused_by dims base.J (Some n) k is = ap (λ r. r >>= as_value (type_of dims base.J)) is
refused_by dims base.Z (Some n) k is = narrow_refused dims base.Z narrow_boolean (Some n) k is
refused_by dims base.B (Some n) k is = narrow_refused dims base.B narrow_byte (Some n) k is
refused_by dims base.C (Some n) k is = narrow_refused dims base.C narrow_char (Some n) k is
refused_by dims base.S (Some n) k is = narrow_refused dims base.S narrow_short (Some n) k is
refused_by dims (base.Class name) (Some n) k is = narrow_refused dims (base.Class name) (narrow_class name) (Some n) k is

module _ (t : Ty) (w : List ℕ) where
  pub number_within : (z : ℤ) → literal_in (bits_of t.base) w ≡ Ok z → number_value t (number_in w) ≡ fitting_value t (init.Num z)
  unfolding literal_in
  number_within z is = within_by t.dims t.base (number_in w) z is

  pub number_refused : (k : LineKind) → literal_in (bits_of t.base) w ≡ Err k → number_value t (number_in w) ≡ Err k
  unfolding literal_in
  number_refused k is = refused_by t.dims t.base (number_in w) k is
