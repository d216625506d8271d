use Rattle.std.proofs.Common.{◌≡◌, drop}
use Rattle.dv_defs.specs.Order.{numbers}
use Rattle.dv_hier.specs.Interfaces.{are_ready}
use Rattle.dv_hier.proofs.interfaces.are_listed.Given as goal

abbrev pub invariant-loop-id : goal.invariant-loop-id
invariant-loop-id l = are_ready l.lists (numbers (drop l.id-index l.interfaces)) ≡ are_ready l.lists (numbers l.interfaces)
