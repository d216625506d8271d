-- The clauses of `tests_words`, each by its lemma.
use Rattle.law_machine.proofs.local.tests_words.Goals as goal
use Rattle.law_machine.proofs.lemmas.Readers.Plain.{tests_both, tests_zero}

pub returns : goal.returns
returns c = record { both = tests_both; zero = tests_zero }
