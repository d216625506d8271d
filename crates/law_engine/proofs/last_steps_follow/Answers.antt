-- The clause of `last_steps_follow`, by its lemma.
use Rattle.law_engine.proofs.LastSteps.{last_steps_follow as by_lemma}
use Rattle.law_engine.proofs.last_steps_follow.Goals as goal

pub returns : goal.returns
returns c = record { law = by_lemma }
