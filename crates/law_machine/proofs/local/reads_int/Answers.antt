-- The clauses of `reads_int`, each by its lemma.
use Rattle.law_machine.proofs.local.reads_int.Goals as goal
use Rattle.law_machine.proofs.lemmas.Readers.Plain.{reads_int, keeps_int, reads_argument}

pub returns : goal.returns
returns c = record { reads = reads_int; keeps = keeps_int; argument = reads_argument }
