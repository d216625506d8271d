use Rattle.std.proofs.Common.{◌≡◌, drop}
use Rattle.dv_defs.specs.Order.{numbers}
use Rattle.dv_defs.specs.Prior.{prior_at}
use Rattle.dv_machine.specs.Running as shared
use Rattle.dv_core.proofs.waiting.blocked_record.Given as goal

-- those before are ready
abbrev pub invariant-loop-prior : goal.invariant-loop-prior
invariant-loop-prior l =
    shared.blocked_record l.classes l.thread (prior_at l.image l.fn.class.0) ≡ shared.blocked_record l.classes l.thread (numbers (drop l.prior-index l.prior-items))
