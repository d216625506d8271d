use Rattle.std.proofs.Common.{◌≡◌, ◌∷◌, drop, flat_map}
use Rattle.dv_defs.specs.Order.{numbers}
use Rattle.dv_hier.specs.Interfaces.{added, list_of, listed}
use Rattle.dv_hier.proofs.interfaces.list_above.Given as goal

abbrev pub invariant-loop-id : goal.invariant-loop-id
invariant-loop-id l = added (numbers l.pool) (flat_map (λ c. c ∷ list_of l.lists c) (numbers (drop l.id-index l.interfaces))) ≡ listed l.lists (numbers l.interfaces)
