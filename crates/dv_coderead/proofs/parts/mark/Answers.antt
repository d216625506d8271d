-- Answers that search takes long to find.
use Rattle.std.proofs.lemmas.Grind.{common_steps}
use Rattle.std.proofs.Common.{arith}
use Rattle.dv_coderead.proofs.parts.mark.Goals as goal

pub returns-in-Mark : goal.returns-in-Mark
returns-in-Mark c = grind (arith, common_steps)
