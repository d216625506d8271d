-- The clause of `locals_stay`, by its lemma.
use Rattle.law_engine.proofs.Staying.{locals_stay as by_lemma}
use Rattle.law_engine.proofs.locals_stay.Goals as goal

pub returns : goal.returns
returns c = record { law = by_lemma }
