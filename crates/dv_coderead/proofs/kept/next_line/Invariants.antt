use Rattle.std.proofs.Common.{length, ◌-◌}
use Rattle.dv_coderead.proofs.Passed.{IsPassed}
use Rattle.dv_coderead.proofs.kept.next_line.Given as goal

abbrev pub invariant-loop-at : goal.invariant-loop-at
invariant-loop-at l = IsPassed l.text l.lines l.from l.depth l.at

abbrev pub decreases-loop-at : goal.decreases-loop-at
decreases-loop-at l = length l.lines - l.at
