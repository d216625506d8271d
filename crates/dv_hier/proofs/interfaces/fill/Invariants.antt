use Rattle.dv_hier.proofs.RoundLaws.{IsRound}
use Rattle.dv_hier.proofs.interfaces.fill.Given as goal

abbrev pub invariant-loop-class : goal.invariant-loop-class
invariant-loop-class l = IsRound l.infos l.fn.lists.items l.lists.items l.is_whole l.class
