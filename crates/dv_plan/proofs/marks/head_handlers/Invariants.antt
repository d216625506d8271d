use Rattle.std.proofs.Common.{◌≡◌, drop}
use Rattle.dv_plan.specs.Marks.{headed_lists}
use Rattle.dv_plan.proofs.marks.head_handlers.Given as goal

abbrev pub invariant-loop-list : goal.invariant-loop-list
invariant-loop-list l = headed_lists l.marks.items (drop l.list-index l.hops) ≡ headed_lists l.initial.marks.items l.hops
