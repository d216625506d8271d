-- The clause of `steps_leave_others`, by its lemma.
use Rattle.law_engine.proofs.Others.{steps_leave_others as by_lemma}
use Rattle.law_engine.proofs.steps_leave_others.Goals as goal

pub returns : goal.returns
returns c = record { law = by_lemma }
