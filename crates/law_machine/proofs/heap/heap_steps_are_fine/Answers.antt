-- The clause of `heap_steps_are_fine`, by its lemma.
use Rattle.law_machine.proofs.lemmas.HeapSteps.Fine.{heap_steps_are_fine}
use Rattle.law_machine.proofs.heap.heap_steps_are_fine.Goals as goal

pub returns : goal.returns
returns c = record { law = heap_steps_are_fine }
