use Rattle.std.proofs.Common.{ap, nat_eq, refl, ◌∙◌}
use Rattle.std.specs.HashMap.{get}
use Rattle.dv_machine.specs.Monitors.{entered_in}
use Rattle.dv_monitor.specs.Slots.{HeldList}
use Rattle.dv_monitor.proofs.PlaceLaws.{indexed-recounted, present-entered}
use Rattle.dv_monitor.proofs.holdings.Holdings.enter_again.Goals as goal

pub invariant_of-self : goal.invariant_of-self
invariant_of-self c =
    let at = rw c.deref.ensures.value at c.in-Some.ensures.slot in
    indexed-recounted c.self.inside.slots.items (get nat_eq c.self.inside.places) c.in-Some.place c.in-Some.holding _ c.self.invariant at refl

pub returns-clause-entered : goal.returns-clause-entered
returns-clause-entered c =
    let at = rw c.deref.ensures.value at c.in-Some.ensures.slot in
    λ h. present-entered c.self.inside.slots.items (get nat_eq c.self.inside.places) c.self.invariant c.args.object c.in-Some.place c.in-Some.holding at c.in-Some.ensures.object c.args.thread 1
    ∙ ap (λ (s : HeldList). entered_in s.held c.args.object c.args.thread 1) c.self.view_is
