-- The clause of `least_assignments_are_least`, by its lemma.
use Rattle.law_infer.proofs.Closed.{least_assignments_are_least}
use Rattle.law_infer.proofs.least_assignments_are_least.Goals as goal

pub returns : goal.returns
returns c = record { law = least_assignments_are_least }
