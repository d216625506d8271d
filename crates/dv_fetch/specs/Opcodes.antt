-- The opcode at which a frame goes on (AOSP, "Dalvik bytecode format").
use Rattle.std.specs.Prelude.{ℕ, ◌%◌, Option, Some, None, option_map, slice_get}
use Rattle.dv_defs.specs.Images.{Image}
use Rattle.dv_defs.specs.Op.{Code, code_at}
use Rattle.dv_words.specs.declared.state.Level.{Level}
use Rattle.dv_words.specs.declared.state.Level.TheVariants as level

-- the low byte of the unit at an address
abbrev pub opcode_in : Option Code → ℕ → Option ℕ
opcode_in None at = None
opcode_in (Some code) at = option_map (λ u. u % 256) (slice_get code.body.units at)

-- where the level on top is code: the opcode at its address
abbrev pub opcode_at : Image → Option Level → Option ℕ
opcode_at image (Some (level.Code f)) = opcode_in (code_at image f.method.0) f.at
opcode_at image l = None
