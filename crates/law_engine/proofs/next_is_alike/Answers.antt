-- The clause of `next_is_alike`, by its lemma.
use Rattle.law_engine.proofs.Staying.{next_is_alike as by_lemma}
use Rattle.law_engine.proofs.next_is_alike.Goals as goal

pub returns : goal.returns
returns c = record { law = by_lemma }
