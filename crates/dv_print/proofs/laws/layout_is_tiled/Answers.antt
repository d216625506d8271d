use Rattle.dv_print.proofs.Units.LaidOut.{layout_is_tiled}
use Rattle.dv_print.proofs.laws.layout_is_tiled.Goals as goal

pub returns : goal.returns
returns c = layout_is_tiled
