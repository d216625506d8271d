use Rattle.dv_lex.proofs.Grammar.Only.{a_word}
use Rattle.dv_lex.proofs.laws.grammar.words_are_tokens.Goals as goal

pub returns : goal.returns
returns c = a_word
