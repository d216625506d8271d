-- The clause of `gathered_assignments_are_least`, by its lemma.
use Rattle.law_gather.proofs.Least.{gathered_assignments_are_least}
use Rattle.law_gather.proofs.gathered_assignments_are_least.Goals as goal

pub returns : goal.returns
returns c = record { law = gathered_assignments_are_least }
