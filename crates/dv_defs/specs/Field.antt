-- What a field's definition is seen as, and which values may stand in it.
use Rattle.std.specs.Prelude.{ℕ, ℤ, pos, negsuc, List, Bool, true, false, ◌&&◌, ◌||◌, int_le, nat_eq}
use Rattle.dv_defs.specs.declared.names.Base.{Base}
use Rattle.dv_defs.specs.declared.names.Base.TheVariants as base
use Rattle.dv_defs.specs.declared.names.Ty.{Ty}
use Rattle.dv_defs.specs.declared.class.Init.{Init}
use Rattle.dv_defs.specs.declared.class.Init.TheVariants as init
use Rattle.dv_defs.specs.declared.flags.Flag.TheVariants as flag
use Rattle.dv_defs.specs.Names.{object_name, string_name}
use Rattle.dv_defs.specs.Types.{is_class, is_reference}
use Rattle.dv_defs.specs.Flags.{has_flag}

pub record FieldValue : Type 0 where
  pub name : List ℕ
  pub ty : Ty
  pub flags : ℕ
  pub init : Init

abbrev pub is_between : ℤ → ℤ → ℤ → Bool
is_between low high n = int_le low n && int_le n high

-- the numbers of a primitive type
abbrev pub number_fits : Base → ℤ → Bool
number_fits base.Z n = is_between (pos 0) (pos 1) n
number_fits base.B n = is_between (negsuc 127) (pos 127) n
number_fits base.C n = is_between (pos 0) (pos 65535) n
number_fits base.S n = is_between (negsuc 32767) (pos 32767) n
number_fits base.I n = is_between (negsuc 2147483647) (pos 2147483647) n
number_fits base.J n = is_between (negsuc 9223372036854775807) (pos 9223372036854775807) n
number_fits (base.Class name) n = false

-- a number fits a primitive type that holds it, a string fits String and Object, null each reference type
abbrev pub value_fits : Init → Ty → Bool
value_fits init.Absent ty = true
value_fits (init.Num n) ty = nat_eq ty.dims 0 && number_fits ty.base n
value_fits (init.Str s) ty = is_class string_name ty || is_class object_name ty
value_fits init.Null ty = is_reference ty

abbrev pub is_absent : Init → Bool
is_absent init.Absent = true
is_absent i = false

-- a value stands on a static field alone, and fits its type
abbrev pub may_stand : Init → Ty → ℕ → Bool
may_stand i ty flags = is_absent i || (has_flag flags flag.Static && value_fits i ty)
