use Rattle.std.proofs.Common.{◌≡◌, ◌%◌, ◌++◌, length, IsTrue}
use Rattle.dv_defs.specs.Payloads.{numbers_spelling, all_fit_signed}
use Rattle.dv_units.proofs.payload_readers.numbers_of.Given as goal

-- what was read, and what is left
abbrev pub invariant-loop-units : goal.invariant-loop-units
invariant-loop-units l = (numbers_spelling l.numbers.items ++ l.units ≡ l.initial.units) × (length l.units % 2 ≡ 0) × IsTrue (all_fit_signed l.numbers.items)

abbrev pub decreases-loop-units : goal.decreases-loop-units
decreases-loop-units l = length l.units
