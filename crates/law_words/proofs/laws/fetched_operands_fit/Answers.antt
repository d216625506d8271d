-- The clause of `fetched_operands_fit`, by its lemma.
use Rattle.law_words.proofs.Fitting.{fetched_operands_fit as by_lemma}
use Rattle.law_words.proofs.laws.fetched_operands_fit.Goals as goal

pub returns : goal.returns
returns c = record { law = by_lemma }
