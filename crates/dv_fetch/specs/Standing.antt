-- The instruction at which the frame on top goes on, as the code has it.
use Rattle.std.specs.Prelude.{◌≡◌, ◌∷◌, ℕ, Option, Some, None}
use Rattle.dv_defs.specs.Op.{Code, Op}
use Rattle.dv_defs.specs.Pools.{method_at}
use Rattle.dv_defs.specs.Tiling.{tiles_in, tiling}
use Rattle.dv_typing.specs.Statics as statics
use Rattle.dv_typing.specs.Statics.{fetch}
use Rattle.dv_ops.specs.Meaning.{meant}
use Rattle.dv_words.specs.declared.state.Level.TheVariants as level
use Rattle.dv_words.specs.State.{WordThread}
use Rattle.dv_words.specs.Steps.{At}
use Rattle.dv_fetch.specs.declared.instruction.Instruction.{Instruction}

-- the thread's frame on top goes on at this operation
pub record IsAtOp (own : WordThread) (h : At) (x : statics.At) : Type 0 where
  pub levels : own.levels ≡ level.Code h.frame ∷ h.rest
  pub method : method_at h.image h.frame.method.0 ≡ Some h.own
  pub fetched : fetch h.image h.frame.method.0 h.frame.at ≡ Some x
  pub next : h.next ≡ x.next

-- in a method of these units it means this operation, and the next one follows it
pub record IsHere (i : Instruction) (h : At) (op : Op) : Type 0 where
  pub code : Code
  pub at : ℕ
  pub tiled : code.tiles ≡ tiles_in (tiling i.units.now)
  pub means : meant code at i.op ≡ op
  pub next : i.next ≡ h.next

-- it was found
abbrev pub IsFound : Option Instruction → At → Op → Type 0
IsFound (Some i) h op = IsHere i h op
IsFound None h op = ⊥
