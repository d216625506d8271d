use Rattle.std.proofs.Common.{◌≡◌, ◌++◌, drop}
use Rattle.dv_typing.specs.Joins.{joined}
use Rattle.dv_types.proofs.joins.join_registers.Given as goal

abbrev pub invariant-loop-i : goal.invariant-loop-i
invariant-loop-i l = joined l.image l.a l.b ≡ l.types.items ++ joined l.image (drop l.i l.a) (drop l.i l.b)
