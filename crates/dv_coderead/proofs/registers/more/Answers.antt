-- Answers that search takes long to find.
use Rattle.std.proofs.lemmas.Grind.{common_steps}
use Rattle.std.proofs.Common.{arith}
use Rattle.dv_coderead.proofs.registers.more.Goals as goal

pub returns-in_err-comma-in-None : goal.returns-in_err-comma-in-None
returns-in_err-comma-in-None c = grind (arith, common_steps)
