-- The clause of `reads_receiver`, by its lemma.
use Rattle.law_machine.proofs.calls.reads_receiver.Goals as goal
use Rattle.law_machine.proofs.lemmas.Calls.Constructors.{reads_receiver}

pub returns : goal.returns
returns c = record { law = reads_receiver }
