use Rattle.dv_sound.proofs.SeededLogs.{seeded_logs_finish as by_lemma}
use Rattle.dv_sound.proofs.laws.seeded_logs_finish.Goals as goal

pub returns : goal.returns
returns c = record { law = by_lemma }
