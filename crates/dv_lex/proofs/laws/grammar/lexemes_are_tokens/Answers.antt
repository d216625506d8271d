use Rattle.dv_lex.proofs.Grammar.Texts.{tokens}
use Rattle.dv_lex.proofs.laws.grammar.lexemes_are_tokens.Goals as goal

pub returns : goal.returns
returns c = tokens
