-- Types that are classes.
use Rattle.std.specs.Prelude.{Bool, ◌&&◌, nat_eq}
use Rattle.dv_defs.specs.declared.names.Ty.{Ty}
use Rattle.dv_defs.specs.Types.{is_class_base}

-- a class's type
abbrev pub is_class_type : Ty → Bool
is_class_type t = nat_eq t.dims 0 && is_class_base t.base
