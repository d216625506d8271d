-- Answers that search takes long to find.
use Rattle.std.proofs.lemmas.Grind.{common_steps}
use Rattle.std.proofs.Common.{arith}
use Rattle.dv_asm.proofs.short.Short.groups.Goals as goal

pub returns : goal.returns
returns c = grind (arith, common_steps)

pub bounds-ranges-k : goal.bounds-ranges-k
bounds-ranges-k c = grind (arith, common_steps)

pub returns-in-Err : goal.returns-in-Err
returns-in-Err c = grind (arith, common_steps)
