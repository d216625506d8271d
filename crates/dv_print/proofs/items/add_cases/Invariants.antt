use Rattle.std.proofs.Common.{◌≡◌, ◌++◌, length}
use Rattle.std.specs.List.{flat_map, zip}
use Rattle.dv_print.specs.Draft.{case_line}
use Rattle.dv_print.proofs.items.add_cases.Given as goal

abbrev pub invariant-loop-keys : goal.invariant-loop-keys
invariant-loop-keys l = l.text.items ++ flat_map case_line (zip l.keys l.names) ≡ l.fn.text.items ++ flat_map case_line (zip l.fn.keys l.fn.names)

abbrev pub decreases-loop-keys : goal.decreases-loop-keys
decreases-loop-keys l = length l.keys
