-- The clause of `mains_are_main`, by its lemma.
use Rattle.dv_load.proofs.MainMethods.{mains_are_main as by_lemma}
use Rattle.dv_load.proofs.laws.mains_are_main.Goals as goal

pub returns : goal.returns
returns c = by_lemma
