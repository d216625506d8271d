use Rattle.dv_print.proofs.Again.KeptDraft.{draft_is_kept}
use Rattle.dv_print.proofs.laws.draft_is_kept.Goals as goal

pub returns : goal.returns
returns c = draft_is_kept
