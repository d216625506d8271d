-- The clause of `gathered_flows_are_lawful`, by its lemma.
use Rattle.law_gather.proofs.Lawful.{gathered_flows_are_lawful}
use Rattle.law_gather.proofs.gathered_flows_are_lawful.Goals as goal

pub returns : goal.returns
returns c = record { law = gathered_flows_are_lawful }
