-- The clause of `scheduled_texts_give_images`, by its lemma.
use Rattle.dv_load.proofs.LinkedTexts.{scheduled_texts_give_images as by_lemma}
use Rattle.dv_load.proofs.laws.scheduled_texts_give_images.Goals as goal

pub returns : goal.returns
returns c = by_lemma
