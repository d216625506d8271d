-- What is asked of an address of a method.
use Rattle.std.specs.Prelude.{◌≡◌, ℕ, true, [], Some}
use Rattle.dv_defs.specs.Images.{Image}
use Rattle.dv_defs.specs.Tiling.{begins_insn}
use Rattle.dv_defs.specs.Op.{Code, code_at}
use Rattle.dv_typing.specs.Statics.{At, fetch}
use Rattle.dv_typing.specs.Accepting.{static_places}

-- the method has this body, which breaks no static rule
pub record HasCode (image : Image) (n : ℕ) (code : Code) : Type 0 where
  pub code_is : code_at image n ≡ Some code
  pub static : static_places image code ≡ []

-- and an instruction stands at the address
pub record HasInsn (image : Image) (n at : ℕ) (code : Code) : Type 0 where
  pub has : HasCode image n code
  pub begins : begins_insn code.tiles at ≡ true

-- the operation there
pub record HasOp (image : Image) (n at : ℕ) (code : Code) (x : At) : Type 0 where
  pub code_is : code_at image n ≡ Some code
  pub fetched : fetch image n at ≡ Some x
