-- Answers that search takes long to find.
use Rattle.std.proofs.lemmas.Grind.{common_steps}
use Rattle.std.proofs.Common.{arith}
use Rattle.dv_print.proofs.named.add_try.Goals as goal

pub loop-handler-init : goal.loop-handler-init
loop-handler-init c = grind (arith, common_steps)

pub returns : goal.returns
returns c = grind (arith, common_steps)
