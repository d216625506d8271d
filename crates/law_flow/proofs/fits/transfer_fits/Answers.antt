-- The clause of `transfer_fits`, by its lemma.
use Rattle.law_flow.proofs.TransferFits.{transfer_fits}
use Rattle.law_flow.proofs.fits.transfer_fits.Goals as goal

pub returns : goal.returns
returns c = record { law = transfer_fits }
