use Rattle.std.proofs.Common.{◌≡◌, ◌++◌, ◌-◌, length, replicate}
use Rattle.dv_typing.specs.declared.typing.RegType.TheVariants as ty
use Rattle.dv_rules.proofs.entry.after_unknown.Given as goal

abbrev pub invariant-loop-ty : goal.invariant-loop-ty
invariant-loop-ty l = l.regs.items ≡ replicate (l.count - length l.fn.args.items) ty.Conflict ++ l.yielded
