-- Answers that search takes long to find.
use Rattle.std.proofs.lemmas.Grind.{common_steps}
use Rattle.std.proofs.Common.{arith}
use Rattle.dv_resolve.proofs.pools.check_private_field.Goals as goal

pub returns-in_err-text : goal.returns-in_err-text
returns-in_err-text c = grind (arith, common_steps)
