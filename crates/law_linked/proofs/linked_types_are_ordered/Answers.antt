-- The clause of `linked_types_are_ordered`, by its lemma.
use Rattle.law_linked.proofs.LinkedLaw.{linked_types_are_ordered as by_lemma}
use Rattle.law_linked.proofs.linked_types_are_ordered.Goals as goal

pub returns : goal.returns
returns c = record { law = by_lemma }
