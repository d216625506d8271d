-- Answers that search takes long to find.
use Rattle.std.proofs.lemmas.Grind.{elements}
use Rattle.std.proofs.Common.{arith}
use Rattle.dv_resolve.proofs.main_method.definition_of.Goals as goal

pub returns : goal.returns
returns c = grind (arith, elements)

pub returns-in_err-class : goal.returns-in_err-class
returns-in_err-class c = grind (arith, elements)
