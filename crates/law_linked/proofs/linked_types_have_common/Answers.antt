-- The clause of `linked_types_have_common`, by its lemma.
use Rattle.law_linked.proofs.LinkedLaw.{linked_types_have_common as by_lemma}
use Rattle.law_linked.proofs.linked_types_have_common.Goals as goal

pub returns : goal.returns
returns c = record { law = by_lemma }
