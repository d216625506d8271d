use Rattle.std.proofs.Common.{◌≡◌}
use Rattle.dv_defs.specs.Pools.{walk, supers}
use Rattle.dv_defs.specs.Common.{first_common}
use Rattle.dv_image.proofs.common.first_common.Given as goal

abbrev pub invariant-loop-left : goal.invariant-loop-left
invariant-loop-left l = first_common l.image (supers l.image l.class) (supers l.image l.other) ≡ first_common l.image (walk l.image l.left l.at) (supers l.image l.other)

abbrev pub decreases-loop-left : goal.decreases-loop-left
decreases-loop-left l = l.left
