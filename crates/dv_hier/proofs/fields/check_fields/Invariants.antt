use Rattle.std.proofs.Common.{◌≡◌, take, None, All}
use Rattle.dv_defs.specs.First.{first_below}
use Rattle.dv_defs.specs.LinkFaults.{fault_at, has_field_twice}
use Rattle.dv_defs.specs.Linked.{defs, HasValues}
use Rattle.dv_hier.proofs.fields.check_fields.Given as goal

abbrev pub invariant-loop-i : goal.invariant-loop-i
invariant-loop-i l = record {
  faultless : first_below (fault_at has_field_twice (defs l.infos)) l.i ≡ None;
  values : All HasValues (take l.i (defs l.infos));
}
