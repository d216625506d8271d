-- Types as the nearest common superclass is told by them.
use Rattle.std.specs.Prelude.{ℕ, Option, Some, None}
use Rattle.dv_defs.specs.declared.names.Base.{Base}
use Rattle.dv_defs.specs.declared.names.Ty.{Ty}
use Rattle.dv_defs.specs.Images.{Image}
use Rattle.dv_defs.specs.Pools.{class_type}
use Rattle.dv_defs.specs.Common.{object_type}

-- the type of so many dimensions over this one
abbrev pub type_of : ℕ → Base → Ty
type_of dims base = record { dims = dims; base = base }

-- Object where there is no class
abbrev pub type_or_object : Image → Option ℕ → Ty
type_or_object image None = object_type
type_or_object image (Some c) = class_type image c
