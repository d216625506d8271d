use Rattle.dv_log.proofs.Again.{read_again}
use Rattle.dv_log.proofs.laws.logs_are_read_again.Goals as goal

pub returns : goal.returns
returns c = read_again
