use Rattle.dv_units.proofs.Decoding.{units_fit}
use Rattle.dv_threads.proofs.step.is_within.Goals as goal

pub returns-clause-whole : goal.returns-clause-whole
returns-clause-whole c = units_fit c.args.units.now c.type_inv.units
