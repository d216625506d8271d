-- The clause of `boot_classes_are_named`, by its lemma.
use Rattle.dv_load.proofs.LinkedTexts.{boot_classes_are_named as by_lemma}
use Rattle.dv_load.proofs.laws.boot_classes_are_named.Goals as goal

pub returns : goal.returns
returns c = by_lemma
