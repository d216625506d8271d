use Rattle.dv_hier.proofs.RoundLaws.{AreFilled}
use Rattle.dv_hier.proofs.interfaces.interfaces_of_all.Given as goal

abbrev pub invariant-loop : goal.invariant-loop
invariant-loop l = AreFilled l.infos l.lists.items l.counter
