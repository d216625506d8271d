use Rattle.std.proofs.Common.{option_map, ◌∙◌, ap}
use Rattle.dv_units.specs.Tables.{standard}
use Rattle.dv_units.proofs.Opcodes.{formats_agree}
use Rattle.dv_units.proofs.format.table_format.Goals as goal

pub returns-in-Some : goal.returns-in-Some
returns-in-Some c = ap (option_map standard) c.in-Some.ensures.format ∙ formats_agree c.args.op c.ranges.op.fits

pub returns-in-None : goal.returns-in-None
returns-in-None c = ap (option_map standard) c.in-None.ensures.format ∙ formats_agree c.args.op c.ranges.op.fits
