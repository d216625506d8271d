-- The clause of `faults_are_by_address`, by its lemma.
use Rattle.law_infer.proofs.ByAddress.{faults_are_by_address}
use Rattle.law_infer.proofs.faults_are_by_address.Goals as goal

pub returns : goal.returns
returns c = record { law = faults_are_by_address }
