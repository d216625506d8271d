use Rattle.dv_lex.proofs.Spelled.Words.{number_is_word}
use Rattle.dv_lex.proofs.laws.numbers.words_of_numbers.Goals as goal

pub returns : goal.returns
returns c = number_is_word
