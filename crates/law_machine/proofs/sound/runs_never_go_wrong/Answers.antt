-- The clause of `runs_never_go_wrong`, by its lemma.
use Rattle.law_machine.proofs.lemmas.Bridge.Laws.{bridge_holds}
use Rattle.law_machine.proofs.lemmas.Opening.State.{opening_is_well_typed}
use Rattle.law_machine.proofs.lemmas.Steps.Sound.{steps_are_sound}
use Rattle.law_machine.proofs.lemmas.Steps.Runs.{runs_never_go_wrong}
use Rattle.law_machine.proofs.sound.runs_never_go_wrong.Goals as goal

pub returns : goal.returns
returns c = record { law = runs_never_go_wrong bridge_holds opening_is_well_typed steps_are_sound }
