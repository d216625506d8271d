use Rattle.std.proofs.Common.{◌≡◌, ◌≤◌, length}
use Rattle.dv_defs.specs.Boot.{is_row_of, field_is}
use Rattle.dv_hier.proofs.Rows.{left_by}
use Rattle.dv_hier.proofs.boot.fields_are.Given as goal

abbrev pub invariant-loop-row : goal.invariant-loop-row
invariant-loop-row l = record {
  within : l.told ≤ length l.fields;
  left : left_by field_is (is_row_of l.class) l.rows l.fields 0 0 ≡ left_by field_is (is_row_of l.class) l.rows l.fields l.row-index l.told;
}
