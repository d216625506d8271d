-- The clause of `keeps_object`, by its lemma.
use Rattle.law_machine.proofs.local.keeps_object.Goals as goal
use Rattle.law_machine.proofs.lemmas.Readers.Plain.{keeps_object}

pub returns : goal.returns
returns c = record { law = keeps_object }
