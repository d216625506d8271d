-- Answers that search takes long to find.
use Rattle.std.proofs.lemmas.Grind.{common_steps}
use Rattle.std.proofs.Common.{arith}
use Rattle.dv_coderead.proofs.head.first_word.Goals as goal

pub returns-in_default : goal.returns-in_default
returns-in_default c = grind (arith, common_steps)

pub returns-in_err-first : goal.returns-in_err-first
returns-in_err-first c = grind (arith, common_steps)

pub returns-in-Word : goal.returns-in-Word
returns-in-Word c = grind (arith, common_steps)
