use Rattle.dv_optable.proofs.Laws.{name_known, no_float}
use Rattle.dv_optable.proofs.row.row_of.Goals as goal

pub returns-clause-floats : goal.returns-clause-floats
returns-clause-floats c = λ float. let none = no_float c.args.op _ c.ranges.op.fits c.in_ok-name.ensures in absurd (cc)

pub returns-clause-named : goal.returns-clause-named
returns-clause-named c = name_known c.args.op _ c.ranges.op.fits c.in_ok-name.ensures
