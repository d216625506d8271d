use Rattle.std.proofs.Common.{◌≡◌, ℕ, None}
use Rattle.dv_defs.specs.First.{first_below}
use Rattle.dv_defs.specs.LinkFaults.{fault_at, wrong_above}
use Rattle.dv_defs.specs.Numbering.{declared}
use Rattle.dv_hier.proofs.above.check_above.Given as goal

abbrev pub invariant-loop-class : goal.invariant-loop-class
invariant-loop-class l = (boot : ℕ) → first_below (fault_at (wrong_above (declared l.classes boot)) l.classes) l.class-index ≡ None
