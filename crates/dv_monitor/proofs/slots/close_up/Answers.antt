use Rattle.std.proofs.Common.{ap, arith, nat_eq, take, ◌∙◌}
use Rattle.std.specs.HashMap.{get}
use Rattle.dv_monitor.specs.Slots.{object_in}
use Rattle.dv_monitor.proofs.PlaceLaws.{indexed-same, slot_at-cut}
use Rattle.dv_monitor.proofs.SlotLaws.{present-same}
use Rattle.dv_monitor.proofs.slots.close_up.Goals as goal

pub returns-clause-indexed : goal.returns-clause-indexed
returns-clause-indexed c =
    indexed-same c.loop-from.slots.items c.truncate.new.self.items (get nat_eq c.loop-from.places) c.loop-from.invariant.indexed
    (λ place. rw c.truncate.ensures.items
    (ap object_in (slot_at-cut c.loop-from.slots.items c.loop-from.to (λ k a b. c.loop-from.invariant.empty k a (omega arith)) place)))

pub returns-clause-present : goal.returns-clause-present
returns-clause-present c =
    rw c.truncate.ensures.items
    (present-same (take c.loop-from.to c.loop-from.slots.items) c.loop-from.slots.items
    (slot_at-cut c.loop-from.slots.items c.loop-from.to (λ place a b. c.loop-from.invariant.empty place a (omega arith))))
    ∙ c.loop-from.invariant.present
