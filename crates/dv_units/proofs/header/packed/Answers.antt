use Rattle.std.proofs.Common.{arith}
use Rattle.dv_units.proofs.Headers.{no_packed}
use Rattle.dv_units.proofs.header.packed.Goals as goal

pub returns-then-units-from : goal.returns-then-units-from
returns-then-units-from c = no_packed c.args.units.now c.requires.mark c.requires.some (omega arith)
