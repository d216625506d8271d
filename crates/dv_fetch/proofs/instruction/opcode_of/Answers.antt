-- Answers that search takes long to find.
use Rattle.std.proofs.lemmas.Grind.{elements}
use Rattle.std.proofs.Common.{arith}
use Rattle.dv_fetch.proofs.instruction.opcode_of.Goals as goal

pub returns-in_err-unit : goal.returns-in_err-unit
returns-in_err-unit c = grind (arith, elements)

pub returns : goal.returns
returns c = grind (arith, elements)
