-- The clause of `left_states_are_well_typed`, by its lemma.
use Rattle.law_machine.proofs.lemmas.Growth.Threads.{left_is_well_typed}
use Rattle.law_machine.proofs.threads.left_states_are_well_typed.Goals as goal

pub returns : goal.returns
returns c = record { law = left_is_well_typed }
