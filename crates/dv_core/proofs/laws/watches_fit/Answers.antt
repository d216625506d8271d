-- The clause of `watches_fit`, by its lemma.
use Rattle.dv_core.proofs.Watches.{watches_fit as by_lemma}
use Rattle.dv_core.proofs.laws.watches_fit.Goals as goal

pub returns : goal.returns
returns c = record { law = by_lemma }
