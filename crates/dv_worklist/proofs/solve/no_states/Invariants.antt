use Rattle.std.proofs.Common.{◌≡◌, None, replicate}
use Rattle.dv_worklist.proofs.solve.no_states.Given as goal

abbrev pub invariant-loop : goal.invariant-loop
invariant-loop g l = l.nothing.items ≡ replicate l.counter None
