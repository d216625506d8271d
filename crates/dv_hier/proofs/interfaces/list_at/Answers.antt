-- Answers that search takes long to find.
use Rattle.std.proofs.lemmas.Grind.{elements}
use Rattle.std.proofs.Common.{arith}
use Rattle.dv_hier.proofs.interfaces.list_at.Goals as goal

pub returns-in_default : goal.returns-in_default
returns-in_default c = grind (arith, elements)

pub returns-in-Some-list : goal.returns-in-Some-list
returns-in-Some-list c = grind (arith, elements)

pub returns-in-None : goal.returns-in-None
returns-in-None c = grind (arith, elements)
