-- The clauses of `outcomes_are_settled`, each by its lemma.
use Rattle.law_machine.proofs.lemmas.Exceptions.Flown.{settled_is_well_typed, settled_record_is_well_typed}
use Rattle.law_machine.proofs.exceptions.outcomes_are_settled.Goals as goal

pub returns-clause-instruction : goal.returns-clause-instruction
returns-clause-instruction c = settled_is_well_typed

pub returns-clause-record_of_class : goal.returns-clause-record_of_class
returns-clause-record_of_class c = settled_record_is_well_typed
