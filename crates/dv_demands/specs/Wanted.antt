-- The types that demands want references to be assignable to.
use Rattle.dv_defs.specs.declared.names.Ty.{Ty}
use Rattle.dv_defs.specs.Images.{Image}
use Rattle.dv_defs.specs.Names.{throwable_name}
use Rattle.dv_defs.specs.Pools.{class_type}
use Rattle.dv_defs.specs.Types.{of_class}
use Rattle.dv_image.specs.Common.{type_of}
use Rattle.dv_demands.specs.declared.assigning.Wanted.{Wanted}
use Rattle.dv_demands.specs.declared.assigning.Wanted.TheVariants as wanted

abbrev pub type_wanted : Image → Wanted → Ty
type_wanted image (wanted.Over dims base) = type_of dims base.now
type_wanted image (wanted.Class c) = class_type image c.0
type_wanted image wanted.Throwable = of_class throwable_name
