use Rattle.dv_lex.proofs.Grammar.Found.{found}
use Rattle.dv_lex.proofs.laws.grammar.tokens_are_found.Goals as goal

pub returns : goal.returns
returns c = found
