-- Answers that search takes long to find.
use Rattle.std.proofs.lemmas.Grind.{common_steps}
use Rattle.std.proofs.Common.{arith}
use Rattle.dv_draft.proofs.pools.Pools.into_seqs.Goals as goal

pub returns-in_err-fields-clause-fields : goal.returns-in_err-fields-clause-fields
returns-in_err-fields-clause-fields c = grind (arith, common_steps)
