-- The clauses of `replays_go_on`, by their lemmas.
use Rattle.law_engine.proofs.Replays.{replay_appends, replays_go_on as by_lemma}
use Rattle.law_engine.proofs.replays_go_on.Goals as goal

pub returns : goal.returns
returns c = record { goes_on = by_lemma; appends = replay_appends }
