-- The clauses of `handlers_are_found`, each by its lemma.
use Rattle.law_machine.proofs.lemmas.Exceptions.Callers.{thrower_is_handled, callers_are_handled, needers_are_handled}
use Rattle.law_machine.proofs.exceptions.handlers_are_found.Goals as goal

pub returns-clause-thrower : goal.returns-clause-thrower
returns-clause-thrower c = thrower_is_handled

pub returns-clause-callers : goal.returns-clause-callers
returns-clause-callers c = callers_are_handled

pub returns-clause-needers : goal.returns-clause-needers
returns-clause-needers c = needers_are_handled
