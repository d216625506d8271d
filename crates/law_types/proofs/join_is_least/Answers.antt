-- The clause of `join_is_least`, by its lemma.
use Rattle.law_types.proofs.Joins.{join_is_least}
use Rattle.law_types.proofs.join_is_least.Goals as goal

pub returns : goal.returns
returns c = record { law = join_is_least }
