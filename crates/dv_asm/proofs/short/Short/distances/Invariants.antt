use Rattle.std.proofs.Common.{◌≡◌, map, take}
use Rattle.dv_asm.specs.Places.{distance}
use Rattle.dv_asm.proofs.short.Short.distances.Given as goal

abbrev pub invariant-loop-name : goal.invariant-loop-name
invariant-loop-name l = l.distances.items ≡ map (distance l.self l.from) (take l.name-index l.names)
