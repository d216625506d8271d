use Rattle.dv_units.proofs.Decoding.{units_fit}
use Rattle.dv_rules.proofs.switches.units_fit.Goals as goal

pub returns : goal.returns
returns c = units_fit c.args.units.now c.type_inv.units
