-- Answers that search takes long to find.
use Rattle.std.proofs.lemmas.Grind.{common_steps, not_there}
use Rattle.std.proofs.Common.{arith}
use Rattle.dv_print.proofs.operands.add_further.Goals as goal

pub returns-in_err-extend_from_slice-2 : goal.returns-in_err-extend_from_slice-2
returns-in_err-extend_from_slice-2 c = grind (arith, common_steps, not_there)

pub returns-in_err-extend_from_slice : goal.returns-in_err-extend_from_slice
returns-in_err-extend_from_slice c = grind (arith, common_steps, not_there)

pub loop-other-preserved : goal.loop-other-preserved
loop-other-preserved c = grind (arith, common_steps)

pub returns : goal.returns
returns c = grind (arith, common_steps)
