use Rattle.std.proofs.Common.{◌≡◌, drop}
use Rattle.dv_defs.specs.Order.{numbers}
use Rattle.dv_defs.specs.Prior.{prior_at}
use Rattle.dv_words.specs.Step as steps
use Rattle.dv_words.specs.Steps.{At}
use Rattle.dv_core.specs.Recording.{IsBeside}
use Rattle.dv_core.proofs.records.look_at.Given as goal

-- nothing was done, since the classes before are ready
abbrev pub invariant-loop-prior : goal.invariant-loop-prior
invariant-loop-prior l =
    record {
      stack : l.stack ≡ l.initial.stack;
      classes : l.classes ≡ l.initial.classes;
      same : (h : At) → IsBeside l.initial.stack l.initial.classes l.thread h →
          steps.look_at h l.class.0 (prior_at l.image l.class.0) ≡ steps.look_at h l.class.0 (numbers (drop l.prior-index l.prior-items));
    }
