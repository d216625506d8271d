-- The clause of `flights_are_fine`, by its lemma.
use Rattle.law_machine.proofs.lemmas.Exceptions.Records.{flights_are_fine}
use Rattle.law_machine.proofs.exceptions.flights_are_fine.Goals as goal

pub returns : goal.returns
returns c = record { law = flights_are_fine }
