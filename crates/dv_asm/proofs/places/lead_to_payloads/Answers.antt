-- Answers that search takes long to find.
use Rattle.std.proofs.lemmas.Grind.{common_steps}
use Rattle.std.proofs.Common.{arith}
use Rattle.dv_asm.proofs.places.lead_to_payloads.Goals as goal

pub loop-k-init : goal.loop-k-init
loop-k-init c = grind (arith, common_steps)
