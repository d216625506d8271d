-- The clause of `steps_are_sound`, by its lemma.
use Rattle.law_machine.proofs.lemmas.Steps.Sound.{steps_are_sound}
use Rattle.law_machine.proofs.sound.steps_are_sound.Goals as goal

pub returns : goal.returns
returns c = record { law = steps_are_sound }
