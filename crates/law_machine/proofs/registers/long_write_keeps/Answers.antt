-- The clause of `long_write_keeps`, by its lemma.
use Rattle.law_machine.proofs.registers.long_write_keeps.Goals as goal
use Rattle.law_machine.proofs.lemmas.Registers.Written.{long_write_keeps}

pub returns : goal.returns
returns c = record { law = long_write_keeps }
