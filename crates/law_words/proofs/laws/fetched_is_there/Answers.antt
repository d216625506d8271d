-- The clause of `fetched_is_there`, by its lemma.
use Rattle.law_words.proofs.Fetching.{fetched_is_there as by_lemma}
use Rattle.law_words.proofs.laws.fetched_is_there.Goals as goal

pub returns : goal.returns
returns c = record { law = by_lemma }
