use Rattle.dv_types.proofs.Table.{IsNearing}
use Rattle.dv_types.proofs.classes.nearest.Given as goal

abbrev pub invariant-loop-left : goal.invariant-loop-left
invariant-loop-left l = IsNearing l.image l.class l.other l.left l.place

abbrev pub decreases-loop-left : goal.decreases-loop-left
decreases-loop-left l = l.left
