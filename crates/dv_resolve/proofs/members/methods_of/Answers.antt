-- Answers that search takes long to find.
use Rattle.std.proofs.lemmas.Grind.{common_steps}
use Rattle.std.proofs.Common.{arith}
use Rattle.dv_resolve.proofs.members.methods_of.Goals as goal

pub overflow_cast-first : goal.overflow_cast-first
overflow_cast-first c = grind (arith, common_steps)

pub add_methods-requires : goal.add_methods-requires
add_methods-requires c = grind (arith, common_steps)

pub returns : goal.returns
returns c = grind (arith, common_steps)
