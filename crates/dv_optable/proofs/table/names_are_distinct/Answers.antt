use Rattle.dv_optable.proofs.Laws.{distinct_names}
use Rattle.dv_optable.proofs.table.names_are_distinct.Goals as goal

pub returns : goal.returns
returns c = distinct_names
