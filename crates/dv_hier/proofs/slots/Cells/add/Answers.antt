-- Answers that search takes long to find.
use Rattle.std.proofs.lemmas.Grind.{common_steps, not_there}
use Rattle.std.proofs.Common.{arith}
use Rattle.dv_hier.proofs.slots.Cells.add.Goals as goal

pub returns-in_err-push-clause-fields : goal.returns-in_err-push-clause-fields
returns-in_err-push-clause-fields c = grind (arith, common_steps)

pub returns-in_err-push-clause-words : goal.returns-in_err-push-clause-words
returns-in_err-push-clause-words c = grind (arith, common_steps, not_there)

pub returns-clause-fields : goal.returns-clause-fields
returns-clause-fields c = grind (arith, common_steps)

pub returns-clause-words : goal.returns-clause-words
returns-clause-words c = grind (arith, common_steps)

pub overflow_add-self : goal.overflow_add-self
overflow_add-self c = grind (arith, common_steps)
