use Rattle.std.proofs.Common.{◌-◌, length}
use Rattle.dv_classread.proofs.Telling.{IsWithin}
use Rattle.dv_classread.proofs.method.method_end.Given as goal

abbrev pub invariant-loop-place : goal.invariant-loop-place
invariant-loop-place l = IsWithin l.text l.lines l.from l.at

abbrev pub decreases-loop-place : goal.decreases-loop-place
decreases-loop-place l = length l.lines - l.at
