use Rattle.std.proofs.Common.{◌≡◌, ◌++◌, drop, map}
use Rattle.dv_typing.specs.Accepting.{static_fault}
use Rattle.dv_static.specs.Placed.{places_of}
use Rattle.dv_static.proofs.faults.faults_of.Given as goal

-- with those of the places from here on, the faults are all
abbrev pub invariant-loop-i : goal.invariant-loop-i
invariant-loop-i l =
    l.faults.items ++ map (static_fault l.method.0) (places_of (drop l.i l.places)) ≡ map (static_fault l.method.0) (places_of l.places)
