use Rattle.std.proofs.Common.{◌+◌, ◌≤◌, arith, rules}
use Rattle.dv_units.proofs.Decoding.{units_fit}
use Rattle.dv_demands.proofs.PayloadWidths.{width_there}
use Rattle.dv_demands.proofs.payloads.second_unit.Goals as goal

pub overflow_add-result : goal.overflow_add-result
overflow_add-result c =
    let w = width_there c.args.units.now c.args.at (units_fit c.args.units.now c.type_inv.units) c.requires.there in
    let short : c.args.at + 1 ≤ 16384 = omega (arith, w.inside, c.requires.short) in
    search rules

pub offset_bounds-units-at : goal.offset_bounds-units-at
offset_bounds-units-at c =
    let w = width_there c.args.units.now c.args.at (units_fit c.args.units.now c.type_inv.units) c.requires.there in
    let short : c.args.at + 1 ≤ 16384 = omega (arith, w.inside, c.requires.short) in
    search rules

pub bounds-units-at : goal.bounds-units-at
bounds-units-at c = (width_there c.args.units.now c.args.at (units_fit c.args.units.now c.type_inv.units) c.requires.there).inside

pub returns : goal.returns
returns c = (width_there c.args.units.now c.args.at (units_fit c.args.units.now c.type_inv.units) c.requires.there).second
