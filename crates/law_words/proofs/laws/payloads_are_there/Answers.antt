-- The clause of `payloads_are_there`, by its lemma.
use Rattle.law_words.proofs.Fetching.{payloads_are_there as by_lemma}
use Rattle.law_words.proofs.laws.payloads_are_there.Goals as goal

pub returns : goal.returns
returns c = record { law = by_lemma }
