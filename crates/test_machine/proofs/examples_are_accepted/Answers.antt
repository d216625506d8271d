-- The clause of `examples_are_accepted`, by its lemma.
use Rattle.test_machine.proofs.Linked.All.{examples_are_accepted as by_lemma}
use Rattle.test_machine.proofs.examples_are_accepted.Goals as goal

pub returns : goal.returns
returns c = record { law = by_lemma }
