use Rattle.dv_sound.proofs.Unstuck.{turns_never_stick as by_lemma}
use Rattle.dv_sound.proofs.laws.turns_never_stick.Goals as goal

pub returns : goal.returns
returns c = record { law = by_lemma }
