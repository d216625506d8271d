use Rattle.dv_defs.proofs.TilingLaws.{items_apart}
use Rattle.dv_units.proofs.laws.items_are_apart.Goals as goal

pub returns : goal.returns
returns c = items_apart
