use Rattle.std.proofs.Common.{◌≡◌, ◌++◌, length}
use Rattle.dv_defs.specs.Tiling.{bytes_in}
use Rattle.dv_units.proofs.payload_readers.bytes_of.Given as goal

-- what was read, and what is left
abbrev pub invariant-loop-units : goal.invariant-loop-units
invariant-loop-units l = l.all.items ++ bytes_in l.units ≡ bytes_in l.initial.units

abbrev pub decreases-loop-units : goal.decreases-loop-units
decreases-loop-units l = length l.units
