use Rattle.std.proofs.Common.{length, ◌-◌, ◌≡◌, ◌≤◌, replicate}
use Rattle.std.specs.Prelude.{slice_range}
use Rattle.dv_names.proofs.parse.brackets_end.Given as goal

abbrev pub invariant-loop-at : goal.invariant-loop-at
invariant-loop-at l = record {
  past : l.start ≤ l.at;
  few : l.at - l.start ≤ 255;
  inside : l.at ≤ length l.text;
  so_far : slice_range l.text l.start l.at ≡ replicate (l.at - l.start) 91;
}

abbrev pub decreases-loop-at : goal.decreases-loop-at
decreases-loop-at l = length l.text - l.at
