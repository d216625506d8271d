use Rattle.std.proofs.Common.{◌∙◌, sym, arith}
use Rattle.dv_defs.specs.Boot.{is_row_of, field_is}
use Rattle.dv_hier.proofs.Rows.{fields_are_same, left_end}
use Rattle.dv_hier.proofs.boot.fields_are.Goals as goal

pub returns : goal.returns
returns c =
    sym
    (fields_are_same _ c.args.fields.now
    ∙ c.loop-row.invariant.left
    ∙ left_end field_is (is_row_of c.args.class.now) c.args.rows.now c.args.fields.now c.loop-row.row-index c.loop-row.told (omega arith) (omega arith))
