use Rattle.std.proofs.Common.{◌-◌, length}
use Rattle.dv_static.proofs.TilesSoFar.{AreSoFar}
use Rattle.dv_static.proofs.tiles.tiles_of.Given as goal

abbrev pub invariant-loop-at : goal.invariant-loop-at
invariant-loop-at l = AreSoFar l.units l.tiles.items l.at

abbrev pub decreases-loop-at : goal.decreases-loop-at
decreases-loop-at l = length l.units - l.at
