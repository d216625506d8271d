-- What an object is.
use Rattle.std.specs.Prelude.{ℕ, List}
use Rattle.dv_defs.specs.declared.names.ClassId.{ClassId}
use Rattle.dv_defs.specs.declared.names.Ty.{Ty}

-- of a class, an array of this type, a string with its units, or the Class object of a type
pub data Kind : Type 0 where
  Object : (class : ClassId) → Kind
  Array : (ty : Ty) → Kind
  Str : (chars : List ℕ) → Kind
  ClassOf : (ty : Ty) → Kind
