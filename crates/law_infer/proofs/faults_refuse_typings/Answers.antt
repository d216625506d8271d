-- The clause of `faults_refuse_typings`, by its lemma.
use Rattle.law_infer.proofs.Judged.{faults_refuse_typings}
use Rattle.law_infer.proofs.faults_refuse_typings.Goals as goal

pub returns : goal.returns
returns c = record { law = faults_refuse_typings }
