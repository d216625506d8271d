-- Answers that search takes long to find.
use Rattle.std.proofs.lemmas.Grind.{common_steps}
use Rattle.std.proofs.Common.{arith}
use Rattle.dv_asm.proofs.short.Short.append.Goals as goal

pub returns-in_ok-data_of-in-Data-clause-units : goal.returns-in_ok-data_of-in-Data-clause-units
returns-in_ok-data_of-in-Data-clause-units c = grind (arith, common_steps)

pub returns-in_err-data_of-in-Data-clause-units : goal.returns-in_err-data_of-in-Data-clause-units
returns-in_err-data_of-in-Data-clause-units c = grind (arith, common_steps)

pub returns-in_ok-insn_of-in-Op-clause-units : goal.returns-in_ok-insn_of-in-Op-clause-units
returns-in_ok-insn_of-in-Op-clause-units c = grind (arith, common_steps)

pub returns-in_ok-insn_of-in-Op-clause-spelled : goal.returns-in_ok-insn_of-in-Op-clause-spelled
returns-in_ok-insn_of-in-Op-clause-spelled c = grind (arith, common_steps)
