-- Answers that search takes long to find.
use Rattle.std.proofs.lemmas.Grind.{moves, common_steps}
use Rattle.std.proofs.Common.{arith}
use Rattle.dv_asm.proofs.places.Places.address_of.Goals as goal

pub returns-clause-small : goal.returns-clause-small
returns-clause-small c = grind (arith, moves)

pub returns-clause-value : goal.returns-clause-value
returns-clause-value c = grind (arith, common_steps)
