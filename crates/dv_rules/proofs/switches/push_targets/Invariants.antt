use Rattle.std.proofs.Common.{◌≡◌, ◌++◌, map, take}
use Rattle.dv_defs.specs.Numbers.{jump}
use Rattle.dv_rules.specs.Edges.{plain_edge}
use Rattle.dv_rules.proofs.switches.push_targets.Given as goal

abbrev pub invariant-loop-distance : goal.invariant-loop-distance
invariant-loop-distance l = l.edges.items ≡ l.fn.edges.items ++ map plain_edge (map (jump l.at) (take l.distance-index l.distances))
