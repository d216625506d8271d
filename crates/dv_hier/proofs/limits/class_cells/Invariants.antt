use Rattle.std.proofs.Common.{◌≡◌, ◌≤◌, ◌*◌, take, sum_by}
use Rattle.dv_defs.specs.LinkFaults.{body_cells}
use Rattle.dv_hier.proofs.limits.class_cells.Given as goal

abbrev pub invariant-loop-method : goal.invariant-loop-method
invariant-loop-method l = record {
  summed : l.sum ≡ sum_by body_cells (take l.method-index l.methods);
  few : l.sum ≤ 4194304 * l.method-index;
}
