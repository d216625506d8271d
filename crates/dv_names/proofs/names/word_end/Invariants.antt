use Rattle.std.proofs.Common.{length, take, ◌-◌, ◌≡◌, ◌≤◌}
use Rattle.std.specs.Prelude.{slice_range}
use Rattle.dv_names.proofs.names.word_end.Given as goal

abbrev pub invariant-loop-at : goal.invariant-loop-at
invariant-loop-at l = record {
  past : l.start ≤ l.at;
  inside : l.at ≤ length l.text;
  few : l.at - l.start ≤ length l.word;
  so_far : slice_range l.text l.start l.at ≡ take (l.at - l.start) l.word;
}

abbrev pub decreases-loop-at : goal.decreases-loop-at
decreases-loop-at l = length l.text - l.at
