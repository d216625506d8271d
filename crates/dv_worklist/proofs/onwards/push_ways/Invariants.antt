use Rattle.std.proofs.Common.{◌≡◌, ◌++◌, map, take}
use Rattle.dv_worklist.specs.Numbered.{way_to}
use Rattle.dv_worklist.proofs.onwards.push_ways.Given as goal

abbrev pub invariant-loop-place : goal.invariant-loop-place
invariant-loop-place l = l.ways.items ≡ l.initial.ways.items ++ map (way_to l.state) (take l.place-index l.places)
