-- The clause of `turns_advance`, by its lemma.
use Rattle.law_engine.proofs.Counting.{turns_advance as by_lemma}
use Rattle.law_engine.proofs.turns_advance.Goals as goal

pub returns : goal.returns
returns c = record { law = by_lemma }
