-- Answers that search takes long to find.
use Rattle.std.proofs.lemmas.Grind.{common_steps}
use Rattle.std.proofs.Common.{arith}
use Rattle.dv_coderead.proofs.parts.dots.Goals as goal

pub returns-in-Word : goal.returns-in-Word
returns-in-Word c = grind (arith, common_steps)
