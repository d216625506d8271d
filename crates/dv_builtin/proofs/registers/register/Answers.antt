use Rattle.std.proofs.Common.{sym, ap, ◌∙◌, ◌+◌, ℕ, arith}
use Rattle.dv_frames.proofs.Naming.{range_count, range_at}
use Rattle.dv_builtin.proofs.registers.register.Goals as goal

pub returns-then-regs : goal.returns-then-regs
returns-then-regs c = ap (λ (n : ℕ). n + c.args.place) c.from.ensures ∙ sym (range_at c.args.regs.now c.args.place c.if-regs.true c.requires)

pub overflow_add-result : goal.overflow_add-result
overflow_add-result c = omega (arith, range_count c.args.regs.now c.if-regs.true, c.requires, c.from.ensures)
