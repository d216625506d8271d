-- The clause of `erasure_is_exact`, by its lemma.
use Rattle.law_words.proofs.Erasing.{exact as by_lemma}
use Rattle.law_words.proofs.erasure.erasure_is_exact.Goals as goal

pub returns : goal.returns
returns c = record { law = by_lemma }
