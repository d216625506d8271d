-- Answers that search takes long to find.
use Rattle.std.proofs.lemmas.Grind.{common_steps}
use Rattle.std.proofs.Common.{arith}
use Rattle.dv_resolve.proofs.linking.resolved_methods.Goals as goal

pub returns-in_err-members-clause-fault : goal.returns-in_err-members-clause-fault
returns-in_err-members-clause-fault c = grind (arith, common_steps)

pub returns-in_err-members-clause-methods : goal.returns-in_err-members-clause-methods
returns-in_err-members-clause-methods c = grind (arith, common_steps)
