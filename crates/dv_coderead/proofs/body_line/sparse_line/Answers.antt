-- Answers that search takes long to find.
use Rattle.std.proofs.lemmas.Grind.{common_steps}
use Rattle.std.proofs.Common.{arith}
use Rattle.dv_coderead.proofs.body_line.sparse_line.Goals as goal

pub returns-in_ok-key-in-Other-clause-exact : goal.returns-in_ok-key-in-Other-clause-exact
returns-in_ok-key-in-Other-clause-exact c = grind (arith, common_steps)
