-- The clause of `running_follows`, by its lemma.
use Rattle.law_engine.proofs.Endings.{running_follows as by_lemma}
use Rattle.law_engine.proofs.running_follows.Goals as goal

pub returns : goal.returns
returns c = record { law = by_lemma }
