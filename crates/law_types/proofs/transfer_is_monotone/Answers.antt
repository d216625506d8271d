-- The clause of `transfer_is_monotone`, by its lemma.
use Rattle.law_types.proofs.Transfer.{transfer_is_monotone}
use Rattle.law_types.proofs.transfer_is_monotone.Goals as goal

pub returns : goal.returns
returns c = record { law = transfer_is_monotone }
