use Rattle.std.proofs.Common.{◌≡◌, ◌++◌, length}
use Rattle.dv_defs.specs.Payloads.{numbers_spelling}
use Rattle.dv_units.proofs.payload_writers.push_numbers.Given as goal

-- what was written, and what is left
abbrev pub invariant-loop-numbers : goal.invariant-loop-numbers
invariant-loop-numbers l = l.units.items ++ numbers_spelling l.numbers ≡ l.initial.units.items ++ numbers_spelling l.initial.numbers

abbrev pub decreases-loop-numbers : goal.decreases-loop-numbers
decreases-loop-numbers l = length l.numbers
