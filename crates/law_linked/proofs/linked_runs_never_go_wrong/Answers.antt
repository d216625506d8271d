-- The clause of `linked_runs_never_go_wrong`, by its lemma.
use Rattle.law_linked.proofs.LinkedLaw.{linked_runs_never_go_wrong as by_lemma}
use Rattle.law_linked.proofs.linked_runs_never_go_wrong.Goals as goal

pub returns : goal.returns
returns c = record { law = by_lemma }
