-- The clause of `returns_pop`, by its lemma.
use Rattle.law_machine.proofs.calls.returns_pop.Goals as goal
use Rattle.law_machine.proofs.lemmas.Returns.Fine.{returns_pop}

pub returns : goal.returns
returns c = record { law = returns_pop }
