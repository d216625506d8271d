-- The clause of `write_keeps`, by its lemma.
use Rattle.law_machine.proofs.registers.write_keeps.Goals as goal
use Rattle.law_machine.proofs.lemmas.Registers.Written.{write_keeps}

pub returns : goal.returns
returns c = record { law = write_keeps }
