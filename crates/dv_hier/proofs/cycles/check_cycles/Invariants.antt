use Rattle.std.proofs.Common.{◌≡◌, None}
use Rattle.dv_defs.specs.First.{first_below}
use Rattle.dv_hier.proofs.FirstCycle.{cycle_at}
use Rattle.dv_hier.proofs.cycles.check_cycles.Given as goal

abbrev pub invariant-loop-i : goal.invariant-loop-i
invariant-loop-i l = first_below (cycle_at l.infos) l.i ≡ None
