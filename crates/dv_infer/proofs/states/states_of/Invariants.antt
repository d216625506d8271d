use Rattle.std.proofs.Common.{◌≡◌}
use Rattle.dv_worklist.specs.Beside.{alone}
use Rattle.dv_infer.proofs.states.states_of.Given as goal

abbrev pub invariant-loop-row : goal.invariant-loop-row
invariant-loop-row l = l.states.items ≡ alone l.yielded
