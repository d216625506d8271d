-- Answers that search takes long to find.
use Rattle.std.proofs.lemmas.Grind.{common_steps}
use Rattle.std.proofs.Common.{arith}
use Rattle.dv_coderead.proofs.registers.register.Goals as goal

pub returns-in_ok-register-in-Word : goal.returns-in_ok-register-in-Word
returns-in_ok-register-in-Word c = grind (arith, common_steps)
