use Rattle.dv_lex.proofs.Names.{field_word, method_word}
use Rattle.dv_lex.proofs.laws.names.references_are_words.Goals as goal

pub returns-clause-fields : goal.returns-clause-fields
returns-clause-fields c = field_word

pub returns-clause-methods : goal.returns-clause-methods
returns-clause-methods c = method_word
