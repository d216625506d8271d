-- The clause of `statics_are_whole_of_linked`, by its lemma.
use Rattle.law_engine.proofs.Statics.{statics_are_whole_of_linked as by_lemma}
use Rattle.law_engine.proofs.statics_are_whole_of_linked.Goals as goal

pub returns : goal.returns
returns c = record { law = by_lemma }
