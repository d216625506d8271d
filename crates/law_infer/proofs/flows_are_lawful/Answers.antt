-- The clause of `flows_are_lawful`, by its lemma.
use Rattle.law_infer.proofs.Lawful.{flows_are_lawful}
use Rattle.law_infer.proofs.flows_are_lawful.Goals as goal

pub returns : goal.returns
returns c = record { law = flows_are_lawful }
