use Rattle.std.proofs.Common.{◌≡◌, ℕ, ◌≤◌, vec_capacity, vec_len}
use Rattle.dv_monitor.specs.Slots.{slot_at}
use Rattle.dv_monitor.proofs.slots.drop_empty_end.Given as goal

abbrev pub invariant-loop-slots : goal.invariant-loop-slots
invariant-loop-slots l = record {
  slots : (place : ℕ) → slot_at l.slots.items place ≡ slot_at l.initial.slots.items place;
  len : vec_len l.slots ≤ vec_len l.initial.slots;
  capacity : vec_capacity l.slots ≡ vec_capacity l.initial.slots;
}

abbrev pub decreases-loop-slots : goal.decreases-loop-slots
decreases-loop-slots l = vec_len l.slots
