use Rattle.std.proofs.Common.{Some, None, drop, refl}
use Rattle.dv_defs.specs.Payloads.{payload_here}
use Rattle.dv_units.proofs.Decoding.{units_fit}
use Rattle.dv_ops.proofs.Pieces.{size_by}
use Rattle.dv_ops.proofs.items.payload_units.Goals as goal

pub returns-in-Some : goal.returns-in-Some
returns-in-Some c =
    size_by (payload_here (drop c.args.at c.args.units.now)) (Some c.in-Some.size) c.args.units.now c.args.at
    (units_fit c.args.units.now c.type_inv.units) refl c.in-Some.ensures.found c.in-Some.ensures.every

pub returns-in-None : goal.returns-in-None
returns-in-None c =
    size_by (payload_here (drop c.args.at c.args.units.now)) None c.args.units.now c.args.at
    (units_fit c.args.units.now c.type_inv.units) refl c.in-None.ensures.found c.in-None.ensures.every
