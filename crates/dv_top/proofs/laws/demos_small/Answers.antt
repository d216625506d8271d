use Rattle.dv_top.proofs.Demos.{demos_are_small as by_lemma}
use Rattle.dv_top.proofs.laws.demos_small.Goals as goal

pub returns : goal.returns
returns c = by_lemma
