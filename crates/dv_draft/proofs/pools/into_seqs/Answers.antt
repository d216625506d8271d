-- Answers that search takes long to find.
use Rattle.std.proofs.lemmas.Grind.{common_steps}
use Rattle.std.proofs.Common.{arith}
use Rattle.dv_draft.proofs.pools.into_seqs.Goals as goal

pub returns-in_err-into_seq-2-clause-first : goal.returns-in_err-into_seq-2-clause-first
returns-in_err-into_seq-2-clause-first g c = grind (arith, common_steps)

pub returns-in_err-into_seq-2-clause-second : goal.returns-in_err-into_seq-2-clause-second
returns-in_err-into_seq-2-clause-second g c = grind (arith, common_steps)

pub returns-clause-first : goal.returns-clause-first
returns-clause-first g c = grind (arith, common_steps)
