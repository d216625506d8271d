-- Answers that search takes long to find.
use Rattle.std.proofs.lemmas.Grind.{elements}
use Rattle.std.proofs.Common.{arith}
use Rattle.dv_core.proofs.waiting.end_at.Goals as goal

pub returns : goal.returns
returns c = grind (arith, elements)
