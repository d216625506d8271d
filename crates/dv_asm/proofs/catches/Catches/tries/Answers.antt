-- Answers that search takes long to find.
use Rattle.std.proofs.lemmas.Grind.{common_steps}
use Rattle.std.proofs.Common.{arith}
use Rattle.dv_asm.proofs.catches.Catches.tries.Goals as goal

pub loop-start-preserved : goal.loop-start-preserved
loop-start-preserved c = grind (arith, common_steps)

pub returns-in_err-handlers : goal.returns-in_err-handlers
returns-in_err-handlers c = grind (arith, common_steps)
