use Rattle.std.proofs.Common.{◌≡◌, ◌≤◌}
use Rattle.dv_defs.specs.Pools.{initialiser}
use Rattle.dv_clinit.proofs.Declared.{found_from}
use Rattle.dv_clinit.proofs.methods.initialiser.Given as goal

abbrev pub invariant-loop-id : goal.invariant-loop-id
invariant-loop-id l = record { sought : initialiser l.image l.class.0 ≡ found_from l.image l.class.0 l.id; after : l.initial.id ≤ l.id }
