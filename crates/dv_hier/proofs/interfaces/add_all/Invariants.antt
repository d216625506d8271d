use Rattle.std.proofs.Common.{◌≡◌, drop}
use Rattle.dv_defs.specs.Order.{numbers}
use Rattle.dv_hier.specs.Interfaces.{added}
use Rattle.dv_hier.proofs.interfaces.add_all.Given as goal

abbrev pub invariant-loop-id : goal.invariant-loop-id
invariant-loop-id l = added (numbers l.pool) (numbers (drop l.id-index l.classes)) ≡ added (numbers l.initial.pool) (numbers l.classes)
