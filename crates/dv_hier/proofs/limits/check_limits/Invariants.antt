use Rattle.std.proofs.Common.{◌≡◌, suc, length, take, sum_by, None}
use Rattle.dv_defs.specs.First.{first_below}
use Rattle.dv_defs.specs.LinkFaults.{cells, fault_at, past_limits}
use Rattle.dv_hier.proofs.limits.check_limits.Given as goal

abbrev pub invariant-loop-i : goal.invariant-loop-i
invariant-loop-i l = record {
  faultless : first_below (fault_at (λ i c. past_limits (take (suc i) l.program)) l.program) l.i ≡ None;
  classes : l.totals.classes ≡ l.i;
  methods : l.totals.methods ≡ sum_by (λ c. length c.methods) (take l.i l.program);
  fields : l.totals.fields ≡ sum_by (λ c. length c.fields) (take l.i l.program);
  cells : l.totals.cells ≡ sum_by cells (take l.i l.program);
}
