use Rattle.std.proofs.Common.{◌≡◌, drop}
use Rattle.dv_defs.specs.First.{first_in}
use Rattle.dv_hier.specs.Tables.{is_foreign_by}
use Rattle.dv_hier.proofs.boot.check_foreign.Given as goal

abbrev pub invariant-loop-class : goal.invariant-loop-class
invariant-loop-class l =
    first_in (is_foreign_by l.table.classes.items) l.classes ≡ first_in (is_foreign_by l.table.classes.items) (drop l.class-index l.classes)
