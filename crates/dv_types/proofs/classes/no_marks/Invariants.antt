use Rattle.std.proofs.Common.{◌≡◌, false, replicate}
use Rattle.dv_types.proofs.classes.no_marks.Given as goal

abbrev pub invariant-loop : goal.invariant-loop
invariant-loop l = l.row.items ≡ replicate l.counter false
