use Rattle.dv_lex.proofs.Literals.Fronts.{determined}
use Rattle.dv_lex.proofs.laws.literals.units_are_determined.Goals as goal

pub returns : goal.returns
returns c = λ q us vs bs. determined
