-- The clause of `opening_stands`, by its lemma.
use Rattle.law_words.proofs.OpeningState.{opening_stand as by_lemma}
use Rattle.law_words.proofs.laws.opening_stands.Goals as goal

pub returns : goal.returns
returns c = record { law = by_lemma }
