use Rattle.dv_print.proofs.Pools.KeptEntries.{draft_keeps_entries}
use Rattle.dv_print.proofs.laws.draft_keeps_entries.Goals as goal

pub returns : goal.returns
returns c = draft_keeps_entries
