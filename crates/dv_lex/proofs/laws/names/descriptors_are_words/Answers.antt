use Rattle.dv_lex.proofs.Names.{type_word, proto_word}
use Rattle.dv_lex.proofs.laws.names.descriptors_are_words.Goals as goal

pub returns-clause-types : goal.returns-clause-types
returns-clause-types c = type_word

pub returns-clause-prototypes : goal.returns-clause-prototypes
returns-clause-prototypes c = proto_word
