use Rattle.std.proofs.Common.{◌-◌}
use Rattle.dv_defs.specs.Tiling.{tiling, tiles_in}
use Rattle.dv_ops.proofs.Passing.{IsWalk}
use Rattle.dv_ops.proofs.walk.begins_insn_in.Given as goal

abbrev pub invariant-loop-here : goal.invariant-loop-here
invariant-loop-here l = IsWalk l.units (tiles_in (tiling l.units)) l.here l.at

abbrev pub decreases-loop-here : goal.decreases-loop-here
decreases-loop-here l = l.at - l.here
