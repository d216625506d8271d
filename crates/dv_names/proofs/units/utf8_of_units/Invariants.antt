use Rattle.std.proofs.Common.{length, ◌-◌, ◌≡◌, ◌++◌, drop}
use Rattle.std.specs.String.{string_bytes}
use Rattle.dv_defs.specs.Texts.{utf8}
use Rattle.dv_names.proofs.units.utf8_of_units.Given as goal

-- what was made, with the bytes of the units that are left, is the bytes of all the units
abbrev pub invariant-loop-at : goal.invariant-loop-at
invariant-loop-at l = string_bytes l.text ++ utf8 (drop l.at l.units) ≡ utf8 l.units

abbrev pub decreases-loop-at : goal.decreases-loop-at
decreases-loop-at l = length l.units - l.at
