use Rattle.std.proofs.Common.{◌≡◌, ◌<◌, length}
use Rattle.law_linking.proofs.ReachPlaces.{place}
use Rattle.dv_clinit.specs.Births.{AreKnown, BeginsAsParent, first_state}
use Rattle.dv_clinit.specs.States.{class_state}
use Rattle.dv_clinit.proofs.Writing.{IsOnTheWay}
use Rattle.dv_clinit.proofs.births.write_up.Given as goal

abbrev pub invariant-loop-state : goal.invariant-loop-state
invariant-loop-state l =
    record {
      within : l.at < length l.known;
      known : AreKnown l.image (BeginsAsParent l.image) l.known;
      way : IsOnTheWay l.image l.initial.known l.known l.class l.at;
      same : class_state l.state ≡ first_state l.image l.at;
    }

abbrev pub decreases-loop-state : goal.decreases-loop-state
decreases-loop-state l = place l.image l.at
