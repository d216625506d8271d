-- What holds of a body that breaks no static rule.
use Rattle.std.specs.Prelude.{◌≡◌, ◌≤◌, ℕ, ◌+◌, true, [], Some, Ok, All, IfSome, slice_get}
use Rattle.dv_defs.specs.declared.code.Insn.{Insn}
use Rattle.dv_defs.specs.Images.{Image}
use Rattle.dv_defs.specs.Types.{is_reference}
use Rattle.dv_defs.specs.Tiling.{Tile, IsInsn, tiling, tile_at, begins_insn}
use Rattle.dv_defs.specs.Op.{Code, op_of}
use Rattle.dv_typing.specs.Statics.{At, fetch, insn_rules, arg_words}
use Rattle.dv_typing.specs.Flow.{Catcher, handlers_at, jumps}

-- an instruction stands at an address, and is fetched there
pub record IsFetched (image : Image) (code : Code) (at : ℕ) (x : At) : Type 0 where
  pub tile : Tile
  pub there : tile_at code.tiles at ≡ Some tile
  pub insn : Insn
  pub is_insn : tile.item ≡ IsInsn insn
  pub keeps_rules : insn_rules image code at insn ≡ []
  pub op : op_of image code at insn ≡ Ok x.op
  pub next : x.next ≡ at + tile.size
  pub fetched : fetch image code.method.id at ≡ Some x

-- a handler stands at an instruction, and what it catches is a class or an array
pub record IsHandler (code : Code) (h : Catcher) : Type 0 where
  pub leads : begins_insn code.tiles h.to ≡ true
  pub catches : IfSome h.ty (λ t. is_reference t ≡ true)

-- what a body without static faults has
pub record IsClean (image : Image) (code : Code) : Type 0 where
  pub tiled : tiling code.body.units ≡ Ok code.tiles
  pub start : begins_insn code.tiles 0 ≡ true
  pub room : arg_words code.method ≤ code.body.registers
  -- each instruction is fetched
  pub each : (at : ℕ) → begins_insn code.tiles at ≡ true → (x : At) × IsFetched image code at x
  -- and what is fetched is an instruction
  pub only : (at : ℕ) (x : At) → fetch image code.method.id at ≡ Some x → begins_insn code.tiles at ≡ true
  pub jumps_lead : (at : ℕ) (x : At) → fetch image code.method.id at ≡ Some x → All (λ to. begins_insn code.tiles to ≡ true) (jumps x.op)
  pub handlers_lead : (at : ℕ) → All (IsHandler code) (handlers_at image code.method.id at)
  -- the types of handlers are the body's
  pub handlers_met :
      (at : ℕ) → All (λ h. IfSome h.ty (λ t. (k : ℕ) × (slice_get code.body.types k ≡ Some t))) (handlers_at image code.method.id at)
