use Rattle.dv_clinit.specs.Births.{AreKnown}
use Rattle.dv_clinit.proofs.Noting.{IsStillOpen}
use Rattle.dv_clinit.proofs.births.note_interfaces.Given as goal

abbrev pub invariant-loop-class : goal.invariant-loop-class
invariant-loop-class l = AreKnown l.image (IsStillOpen l.image l.class) l.known
