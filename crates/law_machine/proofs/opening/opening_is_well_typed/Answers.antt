-- The clause of `opening_is_well_typed`, by its lemma.
use Rattle.law_machine.proofs.lemmas.Opening.State.{opening_is_well_typed}
use Rattle.law_machine.proofs.opening.opening_is_well_typed.Goals as goal

pub returns : goal.returns
returns c = record { law = opening_is_well_typed }
