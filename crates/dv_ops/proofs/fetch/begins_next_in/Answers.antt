use Rattle.std.proofs.Common.{◌∙◌}
use Rattle.dv_units.proofs.Decoding.{units_fit}
use Rattle.dv_ops.proofs.Standing.{begins_next}
use Rattle.dv_ops.proofs.fetch.begins_next_in.Goals as goal

pub returns : goal.returns
returns c = c.begins_as_insn.ensures ∙ begins_next c.args.units.now c.args.at (units_fit c.args.units.now c.type_inv.units) c.requires
