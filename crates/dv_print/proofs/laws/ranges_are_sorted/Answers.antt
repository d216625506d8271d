use Rattle.dv_print.proofs.Ranges.KeptHandlers.{ranges_are_sorted}
use Rattle.dv_print.proofs.laws.ranges_are_sorted.Goals as goal

pub returns : goal.returns
returns c = ranges_are_sorted
