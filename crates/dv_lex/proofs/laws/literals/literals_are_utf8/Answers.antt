use Rattle.dv_lex.proofs.Grammar.Utf8.{writes_text}
use Rattle.dv_lex.proofs.Literals.Units.{units_fit}
use Rattle.dv_lex.proofs.laws.literals.literals_are_utf8.Goals as goal

pub returns : goal.returns
returns c = λ q us bs w. (writes_text q us bs w, units_fit w)
