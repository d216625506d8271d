use Rattle.std.proofs.Common.{List, ℕ, sym, subst, arith, length-drop}
use Rattle.dv_defs.specs.Tiling.{payload_at, tiles_in, tiling}
use Rattle.dv_units.proofs.Decoding.{units_fit}
use Rattle.dv_mem.specs.Payloads.{HasData}
use Rattle.dv_mem.proofs.Data.{data_there}
use Rattle.dv_mem.proofs.payload.data_at.Goals as goal

pub returns-then-units-at-clause-found : goal.returns-then-units-at-clause-found
returns-then-units-at-clause-found c is =
    let there = data_there c.args.units.now c.args.at (units_fit c.args.units.now c.type_inv.units) is in
    let inside = there.inside in
    absurd (omega (arith, inside, length-drop c.args.at c.args.units.now))

pub returns-clause-found : goal.returns-clause-found
returns-clause-found c is =
    let p = payload_at (tiles_in (tiling c.args.units.now)) c.args.at in
    let there = data_there c.args.units.now c.args.at (units_fit c.args.units.now c.type_inv.units) is in
    let P : List ℕ → Type 0 = λ us. HasData us p in
    c.data_in.ensures.found p (subst P (sym c.units_from.ensures) there)
