-- The clause of `rows_are_counted`, by computation.
use Rattle.std.proofs.Common.{refl}
use Rattle.dv_load.proofs.laws.rows_are_counted.Goals as goal

pub returns : goal.returns
returns c = refl
