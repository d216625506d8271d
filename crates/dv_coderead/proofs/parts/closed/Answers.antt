-- Answers that search takes long to find.
use Rattle.std.proofs.lemmas.Grind.{common_steps}
use Rattle.std.proofs.Common.{arith}
use Rattle.dv_coderead.proofs.parts.closed.Goals as goal

pub returns-in-Mark-eq125 : goal.returns-in-Mark-eq125
returns-in-Mark-eq125 c = grind (arith, common_steps)
