use Rattle.dv_lex.proofs.Grammar.Only.{only}
use Rattle.dv_lex.proofs.laws.grammar.tokens_are_all.Goals as goal

pub returns : goal.returns
returns c = only
