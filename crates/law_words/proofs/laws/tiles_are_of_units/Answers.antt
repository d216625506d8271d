-- The clause of `tiles_are_of_units`, by its lemma.
use Rattle.law_words.proofs.Fetching.{tiles_are as by_lemma}
use Rattle.law_words.proofs.laws.tiles_are_of_units.Goals as goal

pub returns : goal.returns
returns c = record { law = by_lemma }
