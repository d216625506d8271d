-- The clause of `reads_value`, by its lemma.
use Rattle.law_machine.proofs.calls.reads_value.Goals as goal
use Rattle.law_machine.proofs.lemmas.Readers.Words.{reads_value}

pub returns : goal.returns
returns c = record { law = reads_value }
