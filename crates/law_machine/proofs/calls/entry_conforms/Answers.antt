-- The clause of `entry_conforms`, by its lemma.
use Rattle.law_machine.proofs.calls.entry_conforms.Goals as goal
use Rattle.law_machine.proofs.lemmas.Calls.Entered.{entry_conforms}

pub returns : goal.returns
returns c = record { law = entry_conforms }
