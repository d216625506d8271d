use Rattle.std.proofs.Common.{◌≡◌, map, take}
use Rattle.dv_plan.proofs.ways.addresses.Given as goal

abbrev pub invariant-loop-edge : goal.invariant-loop-edge
invariant-loop-edge l = l.addresses.items ≡ map (λ e. e.to) (take l.edge-index l.edges)
