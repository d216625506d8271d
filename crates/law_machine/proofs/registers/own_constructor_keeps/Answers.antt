-- The clause of `own_constructor_keeps`, by its lemma.
use Rattle.law_machine.proofs.registers.own_constructor_keeps.Goals as goal
use Rattle.law_machine.proofs.lemmas.Registers.Made.{own_constructor_keeps}

pub returns : goal.returns
returns c = record { law = own_constructor_keeps }
