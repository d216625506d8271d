use Rattle.std.proofs.Common.{◌≡◌, take}
use Rattle.std.specs.List.{flat_map}
use Rattle.dv_print.specs.Drafting.{catches_of_try}
use Rattle.dv_print.proofs.handlers.catches_of.Given as goal

abbrev pub invariant-loop-entry : goal.invariant-loop-entry
invariant-loop-entry l = l.catches.items ≡ flat_map (catches_of_try l.body.types) (take l.entry-index l.entry-items)
