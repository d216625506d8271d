use Rattle.dv_core.proofs.Opcodes.{local_by_opcode, no_opcode_local}
use Rattle.dv_core.proofs.advancing.is_at_local.Goals as goal

pub returns-in-Some : goal.returns-in-Some
returns-in-Some c w = local_by_opcode c.args.image.now c.args.stack.now.levels c.in-Some.opcode c.opcode_is_local.result w c.in-Some.ensures c.opcode_is_local.ensures

pub returns-in-None : goal.returns-in-None
returns-in-None c w = no_opcode_local c.args.image.now c.args.stack.now.levels w c.in-None.ensures
