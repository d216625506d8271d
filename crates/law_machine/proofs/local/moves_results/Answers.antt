-- The clauses of `moves_results`, each by its lemma.
use Rattle.law_machine.proofs.local.moves_results.Goals as goal
use Rattle.law_machine.proofs.lemmas.Readers.Plain.{moves_int, moves_reference}

pub returns : goal.returns
returns c = record { int = moves_int; reference = moves_reference }
