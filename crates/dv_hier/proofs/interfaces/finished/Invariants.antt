use Rattle.std.proofs.Common.{◌≡◌, map}
use Rattle.dv_hier.specs.Interfaces.{or_empty}
use Rattle.dv_hier.proofs.interfaces.finished.Given as goal

abbrev pub invariant-loop-list : goal.invariant-loop-list
invariant-loop-list l = l.done.items ≡ map or_empty l.yielded
