-- Operations of a body.
use Rattle.std.specs.Prelude.{◌≡◌, ℕ, Some}
use Rattle.dv_defs.specs.Images.{Image}
use Rattle.dv_defs.specs.Op.{Code}
use Rattle.dv_typing.specs.Statics.{fetch}
use Rattle.dv_ops.specs.declared.op.Op.{Op}
use Rattle.dv_ops.specs.Meaning.{meant}

-- the operation is fetched at some address
pub record IsOfBody (image : Image) (code : Code) (op : Op) : Type 0 where
  pub at : ℕ
  pub next : ℕ
  pub fetched : fetch image code.method.id at ≡ Some (record { op = meant code at op; next = next })
