-- The clause of `local_steps_are_fine`, by its lemma.
use Rattle.law_machine.proofs.local.local_steps_are_fine.Goals as goal
use Rattle.law_machine.proofs.lemmas.Local.Fine.{local_steps_are_fine}

pub returns : goal.returns
returns c = record { law = local_steps_are_fine }
