-- The clause of `steps_fit`, by its lemma.
use Rattle.dv_core.proofs.Steppable.{steps_fit as by_lemma}
use Rattle.dv_core.proofs.laws.steps_fit.Goals as goal

pub returns : goal.returns
returns c = record { law = by_lemma }
