use Rattle.std.proofs.Common.{◌≡◌, ◌++◌, drop, length}
use Rattle.dv_print.specs.Raw.{units_from}
use Rattle.dv_print.proofs.raw.add_unit_lines.Given as goal

abbrev pub invariant-loop-k : goal.invariant-loop-k
invariant-loop-k l = l.text.items ++ units_from (length l.units) l.k (drop l.k l.units) ≡ l.fn.text.items ++ units_from (length l.units) 0 l.units
