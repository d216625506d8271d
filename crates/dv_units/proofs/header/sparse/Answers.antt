use Rattle.std.proofs.Common.{arith}
use Rattle.dv_units.proofs.Headers.{no_sparse}
use Rattle.dv_units.proofs.header.sparse.Goals as goal

pub returns-then-units-from : goal.returns-then-units-from
returns-then-units-from c = no_sparse c.args.units.now c.requires.mark c.requires.some (omega arith)
