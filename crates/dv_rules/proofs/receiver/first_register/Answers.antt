use Rattle.dv_rules.proofs.FirstRegister.{first_named}
use Rattle.dv_rules.proofs.receiver.first_register.Goals as goal

pub returns-else-regs-eq0 : goal.returns-else-regs-eq0
returns-else-regs-eq0 c = first_named c.args.regs.now c.if-regs-eq0.false
