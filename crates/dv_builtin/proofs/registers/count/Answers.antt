use Rattle.std.proofs.Common.{sym, ◌∙◌}
use Rattle.dv_frames.proofs.Naming.{range_count}
use Rattle.dv_builtin.proofs.registers.count.Goals as goal

pub returns-then-regs-clause-count : goal.returns-then-regs-clause-count
returns-then-regs-clause-count c = c.from-count.ensures ∙ sym (range_count c.args.regs.now c.if-regs.true)
