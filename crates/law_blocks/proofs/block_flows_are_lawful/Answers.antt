-- The clause of `block_flows_are_lawful`, by its lemma.
use Rattle.law_blocks.proofs.Lawful.{block_flows_are_lawful}
use Rattle.law_blocks.proofs.block_flows_are_lawful.Goals as goal

pub returns : goal.returns
returns c = record { law = block_flows_are_lawful }
