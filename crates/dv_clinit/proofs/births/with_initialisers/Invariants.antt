use Rattle.dv_clinit.proofs.Marking.{AreMarked}
use Rattle.dv_clinit.proofs.births.with_initialisers.Given as goal

abbrev pub invariant-loop-id : goal.invariant-loop-id
invariant-loop-id l = AreMarked l.image l.id l.known.items
