use Rattle.dv_print.proofs.Units.KeptAddresses.{draft_keeps_addresses}
use Rattle.dv_print.proofs.laws.draft_keeps_addresses.Goals as goal

pub returns : goal.returns
returns c = draft_keeps_addresses
