-- The clause of `steps_follow`, by its lemma.
use Rattle.law_words.proofs.ThreadStep.{steps_follow as by_lemma}
use Rattle.law_words.proofs.laws.steps_follow.Goals as goal

pub returns : goal.returns
returns c = record { law = by_lemma }
