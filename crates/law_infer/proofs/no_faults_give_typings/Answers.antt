-- The clause of `no_faults_give_typings`, by its lemma.
use Rattle.law_infer.proofs.Judged.{no_faults_give_typings}
use Rattle.law_infer.proofs.no_faults_give_typings.Goals as goal

pub returns : goal.returns
returns c = record { law = no_faults_give_typings }
