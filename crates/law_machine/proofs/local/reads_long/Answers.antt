-- The clauses of `reads_long`, each by its lemma.
use Rattle.law_machine.proofs.local.reads_long.Goals as goal
use Rattle.law_machine.proofs.lemmas.Readers.Plain.{reads_two, reads_long}

pub returns : goal.returns
returns c = record { words = reads_two; number = reads_long }
