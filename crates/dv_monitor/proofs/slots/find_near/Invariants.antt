use Rattle.std.proofs.Common.{◌≡◌, ◌≢◌, ℕ, ◌<◌, Some, length, min}
use Rattle.dv_monitor.specs.declared.slots.TheConstants.{NEAR}
use Rattle.dv_monitor.specs.Slots.{object_in, slot_at}
use Rattle.dv_monitor.proofs.slots.find_near.Given as goal

abbrev pub invariant-loop-place : goal.invariant-loop-place
invariant-loop-place l = record {
  before : (place : ℕ) → place < l.place → object_in (slot_at l.slots place) ≢ Some l.object;
  end : l.place-end ≡ min (length l.slots) NEAR;
}
