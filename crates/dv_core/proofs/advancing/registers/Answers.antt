-- Answers that search takes long to find.
use Rattle.std.proofs.lemmas.Grind.{common_steps}
use Rattle.std.proofs.Common.{arith}
use Rattle.dv_core.proofs.advancing.registers.Goals as goal

pub returns : goal.returns
returns c = grind (arith, common_steps)
