-- The clause of `clean_bodies`, by its lemma.
use Rattle.law_flow.proofs.CleanLaw.{clean_bodies}
use Rattle.law_flow.proofs.clean.clean_bodies.Goals as goal

pub returns : goal.returns
returns c = record { law = clean_bodies }
