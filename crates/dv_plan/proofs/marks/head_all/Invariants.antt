use Rattle.std.proofs.Common.{◌≡◌, drop}
use Rattle.dv_plan.specs.Marks.{headed}
use Rattle.dv_plan.proofs.marks.head_all.Given as goal

abbrev pub invariant-loop-to : goal.invariant-loop-to
invariant-loop-to l = headed l.marks.items (drop l.to-index l.heads) ≡ headed l.initial.marks.items l.heads
