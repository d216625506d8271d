use Rattle.std.proofs.Common.{arith, ◌∙◌}
use Rattle.dv_monitor.proofs.PlaceLaws.{slot_at-popped}
use Rattle.dv_monitor.proofs.slots.drop_empty_end.Goals as goal

pub loop-slots-preserved : goal.loop-slots-preserved
loop-slots-preserved c = record {
  slots = λ place.
      slot_at-popped c.loop-slots.slots.items c.deref.result.now c.pop.new.self.items c.loop-slots.slots.len c.in-Some-None.field-0.now c.deref.ensures.value c.deref.ensures.len
      c.in-Some-None.ensures.value c.in-Some-None.field-0-is c.pop.ensures.rest place
      ∙ c.loop-slots.invariant.slots place;
  len = omega arith;
  capacity = c.pop.ensures.capacity ∙ c.loop-slots.invariant.capacity;
}
