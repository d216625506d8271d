-- The nearest common superclass of two types.
use Rattle.std.specs.Prelude.{ℕ, zero, suc, Bool, true, false, ◌&&◌, ◌||◌, List, [], ◌∷◌, Option, Some, None}
use Rattle.dv_defs.specs.declared.names.Ty.{Ty}
use Rattle.dv_defs.specs.Images.{Image}
use Rattle.dv_defs.specs.Names.{object_name}
use Rattle.dv_defs.specs.Types.{of_class, is_array, is_reference, component, ty_eq}
use Rattle.dv_defs.specs.Pools.{supers, class_type}
use Rattle.dv_defs.specs.Order.{has_number}
use Rattle.dv_defs.specs.Op.{class_of_base}

abbrev pub object_type : Ty
object_type = of_class object_name

-- the first of these classes that is among those
abbrev pub first_common : Image → List ℕ → List ℕ → Ty
first_common image [] ds = object_type
first_common image (c ∷ cs) ds = elim (has_number c ds) [ true ↦ class_type image c | false ↦ first_common image cs ds ]

abbrev pub common_classes : Image → Option ℕ → Option ℕ → Ty
common_classes image (Some c) (Some d) = first_common image (supers image c) (supers image d)
common_classes image c d = object_type

abbrev pub array_of : Ty → Ty
array_of t = record { dims = suc t.dims; base = t.base }

abbrev pub joins_by_component : Ty → Ty → Bool
joins_by_component a b = is_array a && is_array b && is_reference (component a) && is_reference (component b)

abbrev pub common_flat : Image → Ty → Ty → Ty
common_flat image a b =
    elim (is_array a || is_array b) [
      | true ↦ object_type
      | false ↦ common_classes image (class_of_base image a.base) (class_of_base image b.base)
    ]

-- with so many dimensions left to go through
abbrev pub common_at : Image → ℕ → Ty → Ty → Ty
common_at image zero a b = common_flat image a b
common_at image (suc n) a b =
    elim (ty_eq a b) [
      | true ↦ a
      | false ↦ elim (joins_by_component a b) [
        | true ↦ array_of (common_at image n (component a) (component b))
        | false ↦ common_flat image a b
      ]
    ]

-- the nearest common superclass of two types; arrays join by their components where both are references
unfoldable pub common_super : Image → Ty → Ty → Ty
common_super image a b = common_at image (suc a.dims) a b
