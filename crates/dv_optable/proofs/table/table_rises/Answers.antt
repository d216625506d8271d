use Rattle.dv_optable.proofs.Laws.{length-table, rising}
use Rattle.dv_optable.proofs.table.table_rises.Goals as goal

pub returns : goal.returns
returns c = record { count = length-table; rising = rising }
