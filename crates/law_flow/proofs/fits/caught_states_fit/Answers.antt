-- The clause of `caught_states_fit`, by its lemma.
use Rattle.law_flow.proofs.EntriesFit.{caught_states_fit}
use Rattle.law_flow.proofs.fits.caught_states_fit.Goals as goal

pub returns : goal.returns
returns c = record { law = caught_states_fit }
