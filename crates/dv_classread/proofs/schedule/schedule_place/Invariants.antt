use Rattle.std.proofs.Common.{◌-◌, length}
use Rattle.dv_classread.proofs.Cutting.{IsBefore}
use Rattle.dv_classread.proofs.schedule.schedule_place.Given as goal

abbrev pub invariant-loop-place : goal.invariant-loop-place
invariant-loop-place l = IsBefore l.text l.lines l.at

abbrev pub decreases-loop-place : goal.decreases-loop-place
decreases-loop-place l = length l.lines - l.at
