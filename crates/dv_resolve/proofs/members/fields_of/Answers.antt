-- Answers that search takes long to find.
use Rattle.std.proofs.lemmas.Grind.{common_steps}
use Rattle.std.proofs.Common.{arith}
use Rattle.dv_resolve.proofs.members.fields_of.Goals as goal

pub returns : goal.returns
returns c = grind (arith, common_steps)

pub overflow_cast-first : goal.overflow_cast-first
overflow_cast-first c = grind (arith, common_steps)

pub add_fields-requires : goal.add_fields-requires
add_fields-requires c = grind (arith, common_steps)

pub overflow_add-first : goal.overflow_add-first
overflow_add-first c = grind (arith, common_steps)
