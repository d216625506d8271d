use Rattle.std.proofs.Common.{◌≡◌}
use Rattle.dv_defs.specs.Pools.{walk, supers}
use Rattle.dv_defs.specs.Order.{has_number}
use Rattle.dv_image.proofs.classes.extends.Given as goal

abbrev pub invariant-loop-left : goal.invariant-loop-left
invariant-loop-left l = has_number l.above (supers l.image l.class) ≡ has_number l.above (walk l.image l.left l.at)

abbrev pub decreases-loop-left : goal.decreases-loop-left
decreases-loop-left l = l.left
