use Rattle.std.proofs.Common.{◌≡◌, ◌++◌, take}
use Rattle.std.specs.List.{flat_map}
use Rattle.dv_print.specs.Raw.{try_lines}
use Rattle.dv_print.proofs.raw.add_tries.Given as goal

abbrev pub invariant-loop-entry : goal.invariant-loop-entry
invariant-loop-entry l = l.text.items ≡ l.fn.text.items ++ flat_map (try_lines l.types) (take l.entry-index l.tries)
