-- The clauses of `conformity_goes_up`, each by its lemma.
use Rattle.law_machine.proofs.lemmas.Common.Conformity.{value_conformity_goes_up, register_conformity_goes_up, frame_conformity_goes_up}
use Rattle.law_machine.proofs.order.conformity_goes_up.Goals as goal

pub returns-clause-values : goal.returns-clause-values
returns-clause-values c = value_conformity_goes_up

pub returns-clause-registers : goal.returns-clause-registers
returns-clause-registers c = register_conformity_goes_up

pub returns-clause-frames : goal.returns-clause-frames
returns-clause-frames c = frame_conformity_goes_up
