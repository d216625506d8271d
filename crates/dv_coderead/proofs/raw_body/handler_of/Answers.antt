-- Answers that search takes long to find.
use Rattle.dv_defs.proofs.Keys.{places}
use Rattle.std.proofs.Common.{arith}
use Rattle.dv_coderead.proofs.raw_body.handler_of.Goals as goal

pub returns : goal.returns
returns c = grind (arith, places)
