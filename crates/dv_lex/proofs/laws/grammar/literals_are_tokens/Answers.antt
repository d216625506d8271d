use Rattle.dv_lex.proofs.Grammar.Only.{a_string, a_character}
use Rattle.dv_lex.proofs.laws.grammar.literals_are_tokens.Goals as goal

pub returns-clause-strings : goal.returns-clause-strings
returns-clause-strings c = a_string

pub returns-clause-characters : goal.returns-clause-characters
returns-clause-characters c = a_character
