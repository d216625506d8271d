-- What a linked program is seen as.
use Rattle.std.specs.Prelude.{ℕ, List}
use Rattle.dv_defs.specs.declared.image.ClassInfo.{ClassInfo}
use Rattle.dv_defs.specs.declared.image.MethodInfo.{MethodInfo}
use Rattle.dv_defs.specs.declared.image.FieldInfo.{FieldInfo}

-- the first `boot` classes are the boot classes
pub record Image : Type 0 where
  pub classes : List ClassInfo
  pub methods : List MethodInfo
  pub fields : List FieldInfo
  pub boot : ℕ
