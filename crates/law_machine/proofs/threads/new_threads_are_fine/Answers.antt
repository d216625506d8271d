-- The clause of `new_threads_are_fine`, by its lemma.
use Rattle.law_machine.proofs.lemmas.Records.Started.{new_thread_is_fine}
use Rattle.law_machine.proofs.threads.new_threads_are_fine.Goals as goal

pub returns : goal.returns
returns c = record { law = new_thread_is_fine }
