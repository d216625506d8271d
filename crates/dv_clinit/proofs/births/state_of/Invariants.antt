use Rattle.std.proofs.Common.{◌≡◌, ◌<◌, length}
use Rattle.law_linking.proofs.ReachPlaces.{place}
use Rattle.dv_clinit.specs.Births.{first_state}
use Rattle.dv_clinit.proofs.births.state_of.Given as goal

abbrev pub invariant-loop-at : goal.invariant-loop-at
invariant-loop-at l =
    record { within : l.at < length l.known; same : first_state l.image l.at ≡ first_state l.image l.class }

abbrev pub decreases-loop-at : goal.decreases-loop-at
decreases-loop-at l = place l.image l.at
