use Rattle.dv_optable.proofs.Rows.{named, rows_same}
use Rattle.dv_optable.proofs.table.rows.Goals as goal

pub returns-clause-entries : goal.returns-clause-entries
returns-clause-entries c = rows_same

pub returns-clause-names : goal.returns-clause-names
returns-clause-names c = named
