-- The clause of `records_are_fine`, by its lemma.
use Rattle.law_machine.proofs.lemmas.Records.Fine.{records_are_fine}
use Rattle.law_machine.proofs.threads.records_are_fine.Goals as goal

pub returns : goal.returns
returns c = record { law = records_are_fine }
