use Rattle.std.proofs.Common.{take}
use Rattle.dv_hier.proofs.Rows.{row_checks, foreign_checks, take_min}
use Rattle.dv_hier.proofs.boot.check_boot.Goals as goal

pub returns-in_err-check_rows : goal.returns-in_err-check_rows
returns-in_err-check_rows c =
    row_checks c.args.classes.now (take c.min.result c.args.classes.now) c.args.boot c.in_ok-table.table.classes.items c.in_ok-table.table.fields.items c.in_ok-table.table.methods.items _ c.in_err-check_rows.field-0.0
    (record {
      first = take_min c.args.classes.now c.args.boot c.min.result c.min.ensures;
      class_rows = c.in_ok-table.ensures.classes;
      field_rows = c.in_ok-table.ensures.fields;
      method_rows = c.in_ok-table.ensures.methods;
    })
    c.from_residual-in_err-check_rows.ensures.1
    c.in_err-check_rows.ensures

pub returns : goal.returns
returns c =
    foreign_checks c.args.classes.now (take c.min.result c.args.classes.now) c.args.boot c.in_ok-table.table.classes.items c.in_ok-table.table.fields.items c.in_ok-table.table.methods.items c.check_foreign.result
    (record {
      first = take_min c.args.classes.now c.args.boot c.min.result c.min.ensures;
      class_rows = c.in_ok-table.ensures.classes;
      field_rows = c.in_ok-table.ensures.fields;
      method_rows = c.in_ok-table.ensures.methods;
    })
    c.in_ok-check_rows.ensures
    c.check_foreign.ensures
