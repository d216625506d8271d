-- The clause of `growth_keeps`, by its lemma.
use Rattle.law_machine.proofs.lemmas.Growth.Keeps.{growth_keeps}
use Rattle.law_machine.proofs.heap.growth_keeps.Goals as goal

pub returns : goal.returns
returns c = record { law = growth_keeps }
