use Rattle.dv_optable.proofs.Laws.{local_plain}
use Rattle.dv_optable.proofs.table.local_rows_are_plain.Goals as goal

pub returns : goal.returns
returns c = λ op e below is local. local_plain e local
