use Rattle.dv_top.proofs.Judged.{replays_are_judged as by_lemma}
use Rattle.dv_top.proofs.laws.replays_judged.Goals as goal

pub returns : goal.returns
returns c = by_lemma
