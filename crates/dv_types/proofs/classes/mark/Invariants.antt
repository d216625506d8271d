use Rattle.dv_types.proofs.Table.{IsMarked}
use Rattle.dv_types.proofs.classes.mark.Given as goal

abbrev pub invariant-loop-left : goal.invariant-loop-left
invariant-loop-left l = IsMarked l.image l.class l.left l.at l.row

abbrev pub decreases-loop-left : goal.decreases-loop-left
decreases-loop-left l = l.left
