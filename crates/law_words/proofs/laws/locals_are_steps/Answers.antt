-- The clause of `locals_are_steps`, by its lemma.
use Rattle.law_words.proofs.Slices.{locals_are_steps as by_lemma}
use Rattle.law_words.proofs.laws.locals_are_steps.Goals as goal

pub returns : goal.returns
returns c = record { law = by_lemma }
