-- The clause of `heaps_are_erased`, by its lemma.
use Rattle.law_words.proofs.Heaps.{heaps_are_erased as by_lemma}
use Rattle.law_words.proofs.erasure.heaps_are_erased.Goals as goal

pub returns : goal.returns
returns c = record { law = by_lemma }
