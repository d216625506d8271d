use Rattle.std.proofs.Common.{◌≡◌, take, true}
use Rattle.dv_defs.specs.Order.{numbers}
use Rattle.dv_defs.specs.Prior.{prior_at}
use Rattle.dv_machine.specs.Opening.{none_initialised}
use Rattle.dv_clinit.proofs.births.is_fresh_before.Given as goal

abbrev pub invariant-loop-prior : goal.invariant-loop-prior
invariant-loop-prior l =
    record {
      told : numbers l.prior-items ≡ prior_at l.image l.class;
      none : none_initialised l.image (numbers (take l.prior-index l.prior-items)) ≡ true;
    }
