-- Answers that search takes long to find.
use Rattle.std.proofs.lemmas.Grind.{common_steps}
use Rattle.std.proofs.Common.{arith}
use Rattle.dv_coderead.proofs.raw_body.RawDrafting.finish.Goals as goal

pub returns-in_err-body : goal.returns-in_err-body
returns-in_err-body c = grind (arith, common_steps)
