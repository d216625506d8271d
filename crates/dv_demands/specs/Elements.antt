-- The elements that demands want arrays to have.
use Rattle.std.specs.Prelude.{Bool}
use Rattle.dv_defs.specs.declared.names.Ty.{Ty}
use Rattle.dv_typing.specs.Demands.{any_type, is_fill_type}
use Rattle.dv_typing.specs.Statics.{is_of_suffix}
use Rattle.dv_units.specs.Tables.{standard_suffix}
use Rattle.dv_demands.specs.declared.arrays.Elements.{Elements}
use Rattle.dv_demands.specs.declared.arrays.Elements.TheVariants as elements

abbrev pub is_wanted : Elements → Ty → Bool
is_wanted elements.Any = any_type
is_wanted (elements.OfSuffix s) = is_of_suffix (standard_suffix s)
is_wanted (elements.OfWidth n) = is_fill_type n
