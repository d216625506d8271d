-- The clause of `monitor_steps_are_fine`, by its lemma.
use Rattle.law_machine.proofs.lemmas.Monitors.Steps.{monitor_steps_are_fine}
use Rattle.law_machine.proofs.threads.monitor_steps_are_fine.Goals as goal

pub returns : goal.returns
returns c = record { law = monitor_steps_are_fine }
