use Rattle.std.proofs.Common.{◌+◌, ◌-◌, length}
use Rattle.dv_defs.specs.Images.{Image}
use Rattle.dv_bases.specs.Copies.{AreCopies}
use Rattle.dv_bases.proofs.copies.reach.Given as goal

abbrev pub invariant-loop-names : goal.invariant-loop-names
invariant-loop-names l = (image : Image) → AreCopies image l.initial.names.items → AreCopies image l.names.items

abbrev pub decreases-loop-names : goal.decreases-loop-names
decreases-loop-names l = l.class + 1 - length l.names.items
