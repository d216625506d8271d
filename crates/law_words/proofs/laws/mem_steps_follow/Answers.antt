-- The clause of `mem_steps_follow`, by its lemma.
use Rattle.law_words.proofs.MemSteps.{mem_steps_follow as by_lemma}
use Rattle.law_words.proofs.laws.mem_steps_follow.Goals as goal

pub returns : goal.returns
returns c = record { law = by_lemma }
