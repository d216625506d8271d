use Rattle.std.proofs.Common.{◌≡◌, ◌++◌, take}
use Rattle.std.specs.List.{flat_map}
use Rattle.dv_print.specs.Named.{named_by_try}
use Rattle.dv_print.proofs.named.add_tries.Given as goal

abbrev pub invariant-loop-entry : goal.invariant-loop-entry
invariant-loop-entry l = l.named.items ≡ l.fn.named.items ++ flat_map named_by_try (take l.entry-index l.tries)
