-- The clause of `locals_follow`, by its lemma.
use Rattle.law_engine.proofs.Locals.{locals_follow as by_lemma}
use Rattle.law_engine.proofs.locals_follow.Goals as goal

pub returns : goal.returns
returns c = record { law = by_lemma }
