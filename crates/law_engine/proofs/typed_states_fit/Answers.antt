-- The clause of `typed_states_fit`, by its lemma.
use Rattle.law_engine.proofs.Steps.{typed_states_fit as by_lemma}
use Rattle.law_engine.proofs.typed_states_fit.Goals as goal

pub returns : goal.returns
returns c = record { law = by_lemma }
