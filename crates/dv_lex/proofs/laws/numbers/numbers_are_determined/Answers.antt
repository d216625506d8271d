use Rattle.dv_lex.proofs.Spelled.Texts.{determined}
use Rattle.dv_lex.proofs.laws.numbers.numbers_are_determined.Goals as goal

pub returns : goal.returns
returns c = determined
