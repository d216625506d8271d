-- Answers that search takes long to find.
use Rattle.std.proofs.lemmas.Grind.{common_steps}
use Rattle.std.proofs.Common.{arith}
use Rattle.dv_coderead.proofs.body_line.end_line.Goals as goal

pub returns : goal.returns
returns c = grind (arith, common_steps)
