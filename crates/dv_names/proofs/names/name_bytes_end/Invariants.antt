use Rattle.std.proofs.Common.{length, ◌-◌, ◌≡◌, ◌≤◌, true}
use Rattle.std.specs.Prelude.{slice_range}
use Rattle.std.specs.List.{list_all}
use Rattle.dv_names.specs.Descriptors.{is_name_byte}
use Rattle.dv_names.proofs.names.name_bytes_end.Given as goal

abbrev pub invariant-loop-at : goal.invariant-loop-at
invariant-loop-at l = record {
  past : l.start ≤ l.at;
  inside : l.at ≤ length l.text;
  so_far : list_all is_name_byte (slice_range l.text l.start l.at) ≡ true;
}

abbrev pub decreases-loop-at : goal.decreases-loop-at
decreases-loop-at l = length l.text - l.at
