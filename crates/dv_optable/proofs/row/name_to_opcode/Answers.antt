use Rattle.std.proofs.Common.{◌∙◌}
use Rattle.dv_optable.proofs.Laws.{found-laws}
use Rattle.dv_optable.proofs.row.name_to_opcode.Goals as goal

pub returns : goal.returns
returns c = found-laws c.args.name.now _ (c.opcode_among.ensures ∙ c.rows.ensures.names c.args.name.now)
