use Rattle.dv_top.proofs.SaidOnce.{said_once as by_lemma}
use Rattle.dv_top.proofs.laws.said_once.Goals as goal

pub returns : goal.returns
returns c = by_lemma
