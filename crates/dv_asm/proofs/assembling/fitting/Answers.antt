-- Answers that search takes long to find.
use Rattle.dv_asm.proofs.FirstLemmas.{first_line_more}
use Rattle.std.proofs.lemmas.Grind.{moves}
use Rattle.std.proofs.Common.{arith}
use Rattle.dv_asm.proofs.assembling.fitting.Goals as goal

pub returns-in-Err-clause-checks : goal.returns-in-Err-clause-checks
returns-in-Err-clause-checks c = grind (arith, moves)

pub returns-in-Err-clause-value : goal.returns-in-Err-clause-value
returns-in-Err-clause-value c = grind (arith, first_line_more)
