use Rattle.std.proofs.Common.{◌∙◌}
use Rattle.dv_units.proofs.Opcodes.{floats_agree}
use Rattle.dv_units.proofs.format.is_float_opcode.Goals as goal

pub returns : goal.returns
returns c = c.is_float.ensures ∙ floats_agree c.args.op c.ranges.op.fits
