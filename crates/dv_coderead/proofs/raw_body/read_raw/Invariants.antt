use Rattle.std.proofs.Common.{length, ◌-◌}
use Rattle.dv_coderead.proofs.RawReading.{IsRead}
use Rattle.dv_coderead.proofs.raw_body.read_raw.Given as goal

abbrev pub invariant-loop-place : goal.invariant-loop-place
invariant-loop-place l = IsRead l.text l.lines l.at l.drafting

abbrev pub decreases-loop-place : goal.decreases-loop-place
decreases-loop-place l = length l.lines - l.at
