-- The clause of `invokes_push`, by its lemma.
use Rattle.law_machine.proofs.calls.invokes_push.Goals as goal
use Rattle.law_machine.proofs.lemmas.Calls.Push.{invokes_push}

pub returns : goal.returns
returns c = record { law = invokes_push }
