use Rattle.std.proofs.Common.{◌≡◌, replicate}
use Rattle.dv_typing.specs.declared.typing.RegType.TheVariants as ty
use Rattle.dv_rules.proofs.entry.unknown.Given as goal

abbrev pub invariant-loop : goal.invariant-loop
invariant-loop l = l.regs.items ≡ replicate l.counter ty.Conflict
