use Rattle.std.proofs.Common.{◌≡◌, ℕ, ◌<◌, ◌≤◌, None, nat_eq, vec_capacity, vec_len}
use Rattle.std.specs.HashMap.{get, spare}
use Rattle.dv_monitor.specs.Slots.{IsIndexed, present, slot_at}
use Rattle.dv_monitor.proofs.slots.close_up.Given as goal

abbrev pub invariant-loop-from : goal.invariant-loop-from
invariant-loop-from l = record {
  indexed : IsIndexed l.slots.items (get nat_eq l.places);
  present : present l.slots.items ≡ present l.initial.slots.items;
  down : l.to ≤ l.from;
  empty : (place : ℕ) → l.to ≤ place → place < l.from → slot_at l.slots.items place ≡ None;
  end : l.from-end ≡ vec_len l.slots;
  len : vec_len l.slots ≡ vec_len l.initial.slots;
  capacity : vec_capacity l.slots ≡ vec_capacity l.initial.slots;
  spare : spare l.initial.places ≤ spare l.places;
}
