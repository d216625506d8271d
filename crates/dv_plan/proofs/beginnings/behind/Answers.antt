use Rattle.std.proofs.Common.{◌≤◌, ◌+◌, length, rules}
use Rattle.dv_units.proofs.Decoding.{units_fit}
use Rattle.dv_plan.proofs.Walking.{size_within}
use Rattle.dv_plan.proofs.beginnings.behind.Goals as goal

pub overflow_add-result : goal.overflow_add-result
overflow_add-result c =
    let within : c.args.here + c.in-Some.size ≤ length c.args.units.now = size_within c.args.units.now c.args.here c.in-Some.size (units_fit c.args.units.now c.type_inv.units) c.in-Some.ensures in
    search rules

pub returns-in-Some-clause-inside : goal.returns-in-Some-clause-inside
returns-in-Some-clause-inside c =
    size_within c.args.units.now c.args.here c.in-Some.size (units_fit c.args.units.now c.type_inv.units) c.in-Some.ensures
