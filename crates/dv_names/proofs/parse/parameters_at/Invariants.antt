use Rattle.std.proofs.Common.{length, ◌-◌, ◌≡◌, ◌≤◌}
use Rattle.std.specs.Prelude.{slice_range}
use Rattle.std.specs.List.{All, flat_map}
use Rattle.dv_names.specs.Descriptors.{descriptor, IsType}
use Rattle.dv_names.proofs.parse.parameters_at.Given as goal

abbrev pub invariant-loop-at : goal.invariant-loop-at
invariant-loop-at l = record {
  past : l.start ≤ l.at;
  inside : l.at ≤ length l.text;
  are_types : All IsType l.params.items;
  so_far : slice_range l.text l.start l.at ≡ flat_map descriptor l.params.items;
}

abbrev pub decreases-loop-at : goal.decreases-loop-at
decreases-loop-at l = length l.text - l.at
