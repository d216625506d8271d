use Rattle.std.proofs.Common.{◌≡◌}
use Rattle.std.specs.Prelude.{map}
use Rattle.std.specs.List.{range_with_len}
use Rattle.dv_clinit.specs.Births.{AreKnown, BeginsAsParent, first_state}
use Rattle.dv_clinit.specs.States.{class_states}
use Rattle.dv_clinit.proofs.births.first_states.Given as goal

abbrev pub invariant-loop-class : goal.invariant-loop-class
invariant-loop-class l =
    record {
      known : AreKnown l.image (BeginsAsParent l.image) l.known.items;
      so_far : class_states l.states.items ≡ map (first_state l.image) (range_with_len 0 l.class);
    }
