-- The clause of `reads_arguments`, by its lemma.
use Rattle.law_machine.proofs.calls.reads_arguments.Goals as goal
use Rattle.law_machine.proofs.lemmas.Readers.Words.{reads_arguments}

pub returns : goal.returns
returns c = record { law = reads_arguments }
