use Rattle.std.proofs.Common.{length, ◌-◌, ◌<◌, ◌≤◌}
use Rattle.dv_names.proofs.NamesAt.{AreNamesAt}
use Rattle.dv_names.proofs.names.class_end.Given as goal

abbrev pub invariant-loop-end : goal.invariant-loop-end
invariant-loop-end l = record {
  past : l.start < l.end;
  inside : l.end ≤ length l.text;
  names : AreNamesAt l.text l.start l.end;
}

abbrev pub decreases-loop-end : goal.decreases-loop-end
decreases-loop-end l = length l.text - l.end
