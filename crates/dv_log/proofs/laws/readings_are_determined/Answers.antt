use Rattle.dv_log.proofs.Ways.{one_way}
use Rattle.dv_log.proofs.laws.readings_are_determined.Goals as goal

pub returns : goal.returns
returns c = one_way
