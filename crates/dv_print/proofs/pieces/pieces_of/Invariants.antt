use Rattle.std.proofs.Common.{◌-◌, length}
use Rattle.dv_print.proofs.Steps.Tiles.{AreSoFar}
use Rattle.dv_print.proofs.pieces.pieces_of.Given as goal

abbrev pub invariant-loop-at : goal.invariant-loop-at
invariant-loop-at l = AreSoFar l.units l.pieces.items l.at

abbrev pub decreases-loop-at : goal.decreases-loop-at
decreases-loop-at l = length l.units - l.at
