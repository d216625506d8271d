use Rattle.dv_lex.proofs.Names.{name_word, label_word}
use Rattle.dv_lex.proofs.laws.names.names_are_words.Goals as goal

pub returns-clause-names : goal.returns-clause-names
returns-clause-names c = name_word

pub returns-clause-labels : goal.returns-clause-labels
returns-clause-labels c = label_word
