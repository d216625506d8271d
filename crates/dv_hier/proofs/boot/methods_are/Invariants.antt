use Rattle.std.proofs.Common.{◌≡◌, ◌≤◌, length}
use Rattle.dv_defs.specs.Boot.{is_row_of, method_is}
use Rattle.dv_hier.proofs.Rows.{left_by}
use Rattle.dv_hier.proofs.boot.methods_are.Given as goal

abbrev pub invariant-loop-row : goal.invariant-loop-row
invariant-loop-row l = record {
  within : l.told ≤ length l.methods;
  left : left_by method_is (is_row_of l.class) l.rows l.methods 0 0 ≡ left_by method_is (is_row_of l.class) l.rows l.methods l.row-index l.told;
}
