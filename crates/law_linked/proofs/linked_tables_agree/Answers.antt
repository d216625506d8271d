-- The clause of `linked_tables_agree`, by its lemma.
use Rattle.law_linked.proofs.LinkedLaw.{linked_tables_agree as by_lemma}
use Rattle.law_linked.proofs.linked_tables_agree.Goals as goal

pub returns : goal.returns
returns c = record { law = by_lemma }
