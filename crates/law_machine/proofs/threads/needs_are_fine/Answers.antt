-- The clause of `needs_are_fine`, by its lemma.
use Rattle.law_machine.proofs.lemmas.Records.Needed.{needs_are_fine}
use Rattle.law_machine.proofs.threads.needs_are_fine.Goals as goal

pub returns : goal.returns
returns c = record { law = needs_are_fine }
