-- The clauses of `reads_array`, each by its lemma.
use Rattle.law_machine.proofs.local.reads_array.Goals as goal
use Rattle.law_machine.proofs.lemmas.Readers.Arrays.{reads_array, tests_go_down}

pub returns : goal.returns
returns c = record { reads = reads_array; tests = tests_go_down }
