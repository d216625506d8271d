-- Answers that search takes long to find.
use Rattle.dv_defs.proofs.Keys.{places}
use Rattle.std.proofs.Common.{arith}
use Rattle.dv_draft.proofs.pools.Pools.add.Goals as goal

pub returns-in-Field : goal.returns-in-Field
returns-in-Field c = grind (arith, places)

pub returns-in-OfType : goal.returns-in-OfType
returns-in-OfType c = grind (arith, places)

pub returns-in-Method : goal.returns-in-Method
returns-in-Method c = grind (arith, places)
