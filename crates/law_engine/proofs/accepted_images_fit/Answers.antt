-- The clause of `accepted_images_fit`, by its lemma.
use Rattle.law_engine.proofs.Fields.{accepted_images_fit as by_lemma}
use Rattle.law_engine.proofs.accepted_images_fit.Goals as goal

pub returns : goal.returns
returns c = record { law = by_lemma }
