use Rattle.std.proofs.Common.{◌≡◌, ◌-◌}
use Rattle.dv_defs.specs.Pools.{walk}
use Rattle.dv_defs.specs.Order.{has_number}
use Rattle.dv_typing.specs.Statics.{is_proper_super}
use Rattle.dv_static.proofs.calls.is_proper_super.Given as goal

abbrev pub invariant-loop-left : goal.invariant-loop-left
invariant-loop-left l = is_proper_super l.image l.fn.class.0 l.above ≡ has_number l.above (walk l.image (l.left - 1) l.at)

abbrev pub decreases-loop-left : goal.decreases-loop-left
decreases-loop-left l = l.left
