-- What functions on numbered bases stand on, and how deep an array of references goes.
use Rattle.std.specs.Prelude.{◌≡◌, ◌-◌, ◌+◌, ℕ, true, false}
use Rattle.dv_defs.specs.declared.names.Ty.{Ty}
use Rattle.dv_defs.specs.Images.{Image}
use Rattle.dv_defs.specs.Types.{is_class_base}
use Rattle.dv_bases.specs.Bases.{Names, AreNames}
use Rattle.law_types.specs.Hierarchy.{IsHierarchy}

-- the table's classes are those that have numbers
pub record IsGround (image : Image) (names : Names) : Type 0 where
  pub same : image ≡ names.image
  pub hierarchy : IsHierarchy names.image
  pub are : AreNames names

-- how many times its component is a reference, one after another
abbrev pub depth : Ty → ℕ
depth t = elim (is_class_base t.base) [ true ↦ t.dims | false ↦ t.dims - 1 ]

-- so many dimensions fewer, and so many more
abbrev pub lowered : ℕ → Ty → Ty
lowered n t = record { dims = t.dims - n; base = t.base }

abbrev pub raised : ℕ → Ty → Ty
raised n t = record { dims = n + t.dims; base = t.base }
