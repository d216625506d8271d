-- The clause of `block_assignments_are_least`, by its lemma.
use Rattle.law_blocks.proofs.Least.{block_assignments_are_least}
use Rattle.law_blocks.proofs.block_assignments_are_least.Goals as goal

pub returns : goal.returns
returns c = record { law = block_assignments_are_least }
