-- Numbers with which static fields are declared have 32 bits, or are a long's.
use Rattle.std.proofs.Common.{◌≡◌, ℕ, zero, suc, List, [], ◌∷◌, Bool, true, false, ◌&&◌, Option, Some, None, All, refl, arith}
use Rattle.std.specs.Prelude.{ℤ, pos, negsuc, if◌then◌else◌, nat_eq, nat_le}
use Rattle.std.proofs.lemmas.Bool.{and_parts, leb-true}
use Rattle.std.proofs.lemmas.List.Elements.{All-cons, All-nil}
use Rattle.dv_defs.specs.declared.class.Init.{Init}
use Rattle.dv_defs.specs.declared.class.Init.TheVariants as init
use Rattle.dv_defs.specs.declared.flags.Flag.TheVariants as flag
use Rattle.dv_defs.specs.declared.image.FieldInfo.{FieldInfo}
use Rattle.dv_defs.specs.declared.names.Base.{Base}
use Rattle.dv_defs.specs.declared.names.Base.TheVariants as base
use Rattle.dv_defs.specs.declared.names.Ty.{Ty}
use Rattle.dv_machine.specs.Value.{Value}
use Rattle.dv_machine.specs.Value as v
use Rattle.dv_typing.specs.declared.typing.RegType.{RegType}
use Rattle.dv_typing.specs.declared.typing.RegType.TheVariants as ty
use Rattle.dv_defs.specs.Field.{may_stand, number_fits}
use Rattle.dv_defs.specs.Flags.{has_flag}
use Rattle.dv_machine.specs.Heap.{fresh_cells, zero_cell}
use Rattle.dv_defs.specs.Images.{Image}
use Rattle.dv_defs.specs.Numbers.{hi_of, lo_of}
use Rattle.dv_defs.specs.Pools.{Field, field_at}
use Rattle.dv_typing.specs.RegTypes.{reg_types}
use Rattle.dv_defs.specs.Types.{base_eq}
use Rattle.dv_machine.specs.Accepted.{HasInits}
use Rattle.dv_machine.specs.Local.{const_value}
use Rattle.dv_machine.specs.Opening.{cells_of, field_cells, first_cells, number_cells}
use Rattle.dv_words.specs.Standing.{AreWhole, FitsInt, IsWhole}
use Rattle.law_engine.specs.ImageLaws.{StaticsAreWholeOfLinked}

-- ---- numbers

-- what a primitive type other than long holds has 32 bits
number_whole : (b : Base) (n : ℤ) → number_fits b n ≡ true → base_eq b base.J ≡ false → FitsInt n
number_whole base.Z (pos n) fits short = let h = leb-true n 1 (and_parts (nat_le 0 n) (nat_le n 1) fits).1 in omega (arith, h)
number_whole base.B (pos n) fits short = let h = leb-true n 127 fits in omega (arith, h)
number_whole base.C (pos n) fits short = let h = leb-true n 65535 (and_parts (nat_le 0 n) (nat_le n 65535) fits).1 in omega (arith, h)
number_whole base.S (pos n) fits short = let h = leb-true n 32767 fits in omega (arith, h)
number_whole base.I (pos n) fits short = let h = leb-true n 2147483647 fits in omega (arith, h)
number_whole base.B (negsuc n) fits short = let h = leb-true n 127 (and_parts (nat_le n 127) true fits).0 in omega (arith, h)
number_whole base.S (negsuc n) fits short = let h = leb-true n 32767 (and_parts (nat_le n 32767) true fits).0 in omega (arith, h)
number_whole base.I (negsuc n) fits short = let h = leb-true n 2147483647 (and_parts (nat_le n 2147483647) true fits).0 in omega (arith, h)
number_whole b n fits short = absurd (cc)

constant_whole : (n : ℤ) → FitsInt n → IsWhole (const_value n)
constant_whole (pos zero) few = tt
constant_whole (pos (suc n)) few = few
constant_whole (negsuc n) few = few

one_whole : (x : Value) → IsWhole x → AreWhole (x ∷ [])
one_whole x whole = All-cons IsWhole x [] whole (All-nil IsWhole)

number_cells_whole : (t : Ty) (n : ℤ) → (nat_eq t.dims 0 && number_fits t.base n) ≡ true → AreWhole (number_cells t n)
number_cells_whole t n fits = by (nat_eq t.dims 0) (base_eq t.base base.J) refl both.0
  where
    both : (nat_eq t.dims 0 ≡ true) × (number_fits t.base n ≡ true)
    both = and_parts (nat_eq t.dims 0) (number_fits t.base n) fits

    by : (flat long : Bool) → base_eq t.base base.J ≡ long → flat ≡ true → AreWhole (if flat && long then v.Lo (lo_of n) ∷ v.Hi (hi_of n) ∷ [] else const_value n ∷ [])
    by true true is flat = All-cons IsWhole (v.Lo (lo_of n)) (v.Hi (hi_of n) ∷ []) tt (one_whole (v.Hi (hi_of n)) tt)
    by true false is flat = one_whole (const_value n) (constant_whole n (number_whole t.base n both.1 is))
    by false long is flat = absurd (cc)

-- ---- fields

zero_whole : (t : RegType) → IsWhole (zero_cell t)
zero_whole ty.LongLo = tt
zero_whole ty.LongHi = tt
zero_whole t = tt

zeros_whole : (ts : List RegType) → AreWhole (fresh_cells ts)
zeros_whole [] = All-nil IsWhole
zeros_whole (t ∷ ts) = All-cons IsWhole (zero_cell t) (fresh_cells ts) (zero_whole t) (zeros_whole ts)

first_whole : (name : List ℕ) (t : Ty) (flags : ℕ) (i : Init) (static : Bool) → has_flag flags flag.Static ≡ static → may_stand i t flags ≡ true → AreWhole (first_cells (record { name = name; ty = t; flags = flags; init = i }))
first_whole name t flags i false is stands = rw (is, first_cells) (All-nil IsWhole)
first_whole name t flags init.Absent true is stands = rw (is, first_cells) (zeros_whole (reg_types t))
first_whole name t flags (init.Num n) true is stands = rw (is, first_cells) (number_cells_whole t n (and_parts _ _ stands).1)
first_whole name t flags (init.Str s) true is stands = rw (is, first_cells) (zeros_whole (reg_types t))
first_whole name t flags init.Null true is stands = rw (is, first_cells) (zeros_whole (reg_types t))

field_whole : (o : Option Field) → ((f : Field) → o ≡ Some f → may_stand f.def.init f.def.ty f.def.flags ≡ true) → AreWhole (cells_of o)
field_whole None stands = All-nil IsWhole
field_whole (Some f) stands = first_whole f.def.name f.def.ty f.def.flags f.def.init (has_flag f.def.flags flag.Static) refl (stands f refl)

fields_whole : (image : Image) → HasInits image → (is : List FieldInfo) (k : ℕ) → All AreWhole (field_cells image is k)
fields_whole image inits [] k = All-nil AreWhole
fields_whole image inits (i ∷ is) k = All-cons AreWhole (cells_of (field_at image k)) (field_cells image is (suc k)) (field_whole (field_at image k) (inits.inits k)) (fields_whole image inits is (suc k))

pub statics_are_whole_of_linked : StaticsAreWholeOfLinked
statics_are_whole_of_linked image inits = fields_whole image inits image.fields 0
