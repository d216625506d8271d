-- The clause of `constructor_keeps`, by its lemma.
use Rattle.law_machine.proofs.registers.constructor_keeps.Goals as goal
use Rattle.law_machine.proofs.lemmas.Registers.Made.{constructor_keeps}

pub returns : goal.returns
returns c = record { law = constructor_keeps }
