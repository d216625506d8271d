use Rattle.dv_top.proofs.Judged.{verdicts_are_exact as by_lemma}
use Rattle.dv_top.proofs.laws.verdicts_exact.Goals as goal

pub returns : goal.returns
returns c = by_lemma
