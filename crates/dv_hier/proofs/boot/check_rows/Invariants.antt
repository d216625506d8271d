use Rattle.std.proofs.Common.{◌≡◌, drop}
use Rattle.dv_defs.specs.First.{first_in}
use Rattle.dv_hier.specs.Tables.{row_lacks_by}
use Rattle.dv_hier.proofs.boot.check_rows.Given as goal

abbrev pub invariant-loop-row : goal.invariant-loop-row
invariant-loop-row l =
    first_in (row_lacks_by l.table.fields.items l.table.methods.items l.classes) l.table.classes.items
    ≡ first_in (row_lacks_by l.table.fields.items l.table.methods.items l.classes) (drop l.row-index l.table.classes.items)
