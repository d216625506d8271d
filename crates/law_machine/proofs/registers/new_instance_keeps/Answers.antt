-- The clause of `new_instance_keeps`, by its lemma.
use Rattle.law_machine.proofs.registers.new_instance_keeps.Goals as goal
use Rattle.law_machine.proofs.lemmas.Registers.Made.{new_instance_keeps}

pub returns : goal.returns
returns c = record { law = new_instance_keeps }
