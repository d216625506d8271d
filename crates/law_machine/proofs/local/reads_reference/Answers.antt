-- The clauses of `reads_reference`, each by its lemma.
use Rattle.law_machine.proofs.local.reads_reference.Goals as goal
use Rattle.law_machine.proofs.lemmas.Readers.Plain.{reads_reference, reads_reference_to}

pub returns : goal.returns
returns c = record { any = reads_reference; to = reads_reference_to }
