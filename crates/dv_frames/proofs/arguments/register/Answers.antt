use Rattle.std.proofs.Common.{sym, ap, ◌∙◌, ◌+◌, ℕ, arith}
use Rattle.dv_frames.proofs.Naming.{range_count, range_at}
use Rattle.dv_frames.proofs.arguments.register.Goals as goal

pub returns-then-args : goal.returns-then-args
returns-then-args c = ap (λ (n : ℕ). n + c.args.place) c.from.ensures ∙ sym (range_at c.args.args.now c.args.place c.if-args.true c.requires)

pub overflow_add-result : goal.overflow_add-result
overflow_add-result c = omega (arith, range_count c.args.args.now c.if-args.true, c.requires, c.from.ensures)
