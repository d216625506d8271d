-- The clause of `local_steps_follow`, by its lemma.
use Rattle.law_words.proofs.LocalSteps.{local_steps_follow as by_lemma}
use Rattle.law_words.proofs.laws.local_steps_follow.Goals as goal

pub returns : goal.returns
returns c = record { law = by_lemma }
