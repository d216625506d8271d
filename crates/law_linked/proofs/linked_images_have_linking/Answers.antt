-- The clause of `linked_images_have_linking`, by its lemma.
use Rattle.law_linked.proofs.LinkedLaw.{linked_images_have_linking as by_lemma}
use Rattle.law_linked.proofs.linked_images_have_linking.Goals as goal

pub returns : goal.returns
returns c = record { law = by_lemma }
