-- Operations that are read off the units of their instruction at once.
use Rattle.std.specs.Prelude.{◌≡◌, ℕ, ◌+◌, List, drop, Some, Ok}
use Rattle.dv_defs.specs.declared.code.Insn.{Insn}
use Rattle.dv_defs.specs.Decoding.{insn_here}
use Rattle.dv_defs.specs.Images.{Image}
use Rattle.dv_defs.specs.Op.{Code, op_of}
use Rattle.dv_ops.specs.declared.op.Op.{Op}
use Rattle.dv_ops.specs.Meaning.{meant}
use Rattle.dv_fetch.specs.declared.instruction.Instruction.{Instruction}

-- the instruction that is spelled from here on, where there is one, means this operation and has so many units
pub record Spells (image : Image) (code : Code) (at : ℕ) (us : List ℕ) (op : Op) (size : ℕ) : Type 0 where
  pub means : (insn : Insn) (n : ℕ) → insn_here us ≡ Some (record { insn = insn; size = n }) → (op_of image code at insn ≡ Ok (meant code at op)) × (n ≡ size)

-- so it is with the instruction that stands at an address of these units, and the next one follows it
pub record IsRead (image : Image) (code : Code) (units : List ℕ) (at : ℕ) (i : Instruction) : Type 0 where
  pub of : i.units.now ≡ units
  pub size : ℕ
  pub spells : Spells image code at (drop at units) i.op size
  pub next : i.next ≡ at + size
