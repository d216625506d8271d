use Rattle.std.proofs.Common.{◌≡◌, drop}
use Rattle.dv_typing.specs.Demands.{args_for}
use Rattle.dv_defs.specs.Op.{named_registers}
use Rattle.dv_demands.proofs.arguments.args.Given as goal

-- the arguments before are good
abbrev pub invariant-loop-ty : goal.invariant-loop-ty
invariant-loop-ty l = args_for l.image l.regs l.params (drop l.start (named_registers l.named)) ≡ args_for l.image l.regs (drop l.ty-index l.params) (drop l.place (named_registers l.named))
