use Rattle.dv_types.proofs.Table.{AreFirst}
use Rattle.dv_types.proofs.classes.rows_of.Given as goal

abbrev pub invariant-loop-class : goal.invariant-loop-class
invariant-loop-class l = AreFirst l.image l.class l.rows.items
