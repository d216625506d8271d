use Rattle.dv_print.proofs.Again.AssembledAgain.{draft_is_assembled}
use Rattle.dv_print.proofs.laws.draft_is_assembled.Goals as goal

pub returns : goal.returns
returns c = draft_is_assembled
