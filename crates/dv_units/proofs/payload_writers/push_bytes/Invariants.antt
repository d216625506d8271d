use Rattle.std.proofs.Common.{◌≡◌, ◌++◌, length}
use Rattle.dv_defs.specs.Payloads.{bytes_spelling}
use Rattle.dv_units.proofs.payload_writers.push_bytes.Given as goal

-- what was written, and what is left
abbrev pub invariant-loop-bytes : goal.invariant-loop-bytes
invariant-loop-bytes l = l.units.items ++ bytes_spelling l.bytes ≡ l.initial.units.items ++ bytes_spelling l.initial.bytes

abbrev pub decreases-loop-bytes : goal.decreases-loop-bytes
decreases-loop-bytes l = length l.bytes
