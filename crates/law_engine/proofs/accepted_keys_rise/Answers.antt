-- The clause of `accepted_keys_rise`, by its lemma.
use Rattle.law_engine.proofs.Keys.{accepted_keys_rise as by_lemma}
use Rattle.law_engine.proofs.accepted_keys_rise.Goals as goal

pub returns : goal.returns
returns c = record { law = by_lemma }
