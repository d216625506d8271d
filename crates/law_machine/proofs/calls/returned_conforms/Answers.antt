-- The clause of `returned_conforms`, by its lemma.
use Rattle.law_machine.proofs.calls.returned_conforms.Goals as goal
use Rattle.law_machine.proofs.lemmas.Returns.Constructed.{returned_conforms}

pub returns : goal.returns
returns c = record { law = returned_conforms }
