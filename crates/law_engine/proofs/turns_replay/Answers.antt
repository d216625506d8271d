-- The clause of `turns_replay`, by its lemma.
use Rattle.law_engine.proofs.Turns.{turns_replay as by_lemma}
use Rattle.law_engine.proofs.turns_replay.Goals as goal

pub returns : goal.returns
returns c = record { law = by_lemma }
