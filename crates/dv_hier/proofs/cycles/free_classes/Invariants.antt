use Rattle.std.proofs.Common.{◌≡◌, ◌+◌, ◌≤◌, length}
use Rattle.dv_hier.specs.Upwards.{AreFree, unmarked}
use Rattle.dv_hier.proofs.cycles.free_classes.Given as goal

abbrev pub invariant-loop-round : goal.invariant-loop-round
invariant-loop-round l =
    (length l.done.items ≡ length l.infos) × AreFree l.infos l.done.items × (l.round + unmarked l.done.items ≤ length l.infos)
