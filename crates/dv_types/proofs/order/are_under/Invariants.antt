use Rattle.std.proofs.Common.{◌≡◌, drop}
use Rattle.dv_types.specs.Under.{regs_under}
use Rattle.dv_types.proofs.order.are_under.Given as goal

abbrev pub invariant-loop-i : goal.invariant-loop-i
invariant-loop-i l = regs_under l.image l.a l.b ≡ regs_under l.image (drop l.i l.a) (drop l.i l.b)
