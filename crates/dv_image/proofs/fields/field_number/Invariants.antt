use Rattle.std.proofs.Common.{◌≤◌, ◌<◌, ◌-◌, length}
use Rattle.law_linking.specs.FieldPlaces.{number_at}
use Rattle.dv_image.proofs.fields.field_number.Given as goal

abbrev pub invariant-loop-high : goal.invariant-loop-high
invariant-loop-high l =
    record {
      from : l.low ≤ number_at l.image l.class l.place;
      below : number_at l.image l.class l.place < l.high;
      within : l.high ≤ length l.image.fields;
    }

abbrev pub decreases-loop-high : goal.decreases-loop-high
decreases-loop-high l = l.high - l.low
