-- The clause of `openings_are_simulated`, by its lemma.
use Rattle.law_engine.proofs.Steps.{openings_are_simulated as by_lemma}
use Rattle.law_engine.proofs.openings_are_simulated.Goals as goal

pub returns : goal.returns
returns c = record { law = by_lemma }
