-- The clause of `accepted_steps_follow`, by its lemma.
use Rattle.law_engine.proofs.Steps.{accepted_steps_follow as by_lemma}
use Rattle.law_engine.proofs.accepted_steps_follow.Goals as goal

pub returns : goal.returns
returns c = record { law = by_lemma }
