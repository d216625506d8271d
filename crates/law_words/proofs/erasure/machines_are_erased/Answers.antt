-- The clause of `machines_are_erased`, by its lemma.
use Rattle.law_words.proofs.Machines.{machines_are_erased as by_lemma}
use Rattle.law_words.proofs.erasure.machines_are_erased.Goals as goal

pub returns : goal.returns
returns c = record { law = by_lemma }
