use Rattle.std.proofs.Common.{ap, nat_eq, refl, sym, ◌∙◌}
use Rattle.std.specs.HashMap.{get}
use Rattle.dv_machine.specs.Monitors.{entered_in}
use Rattle.dv_monitor.specs.Slots.{HeldList}
use Rattle.dv_monitor.proofs.PlaceLaws.{indexed-recounted, present-entered}
use Rattle.dv_monitor.proofs.holdings.Holdings.try_again.Goals as goal

pub invariant_of-self : goal.invariant_of-self
invariant_of-self c =
    let at = rw c.deref.ensures.value at c.in_ok-place.ensures.slot in
    indexed-recounted c.self.inside.slots.items (get nat_eq c.self.inside.places) c.in_ok-place.place c.in_ok-place.holding _ c.self.invariant at refl

pub returns-clause-entered : goal.returns-clause-entered
returns-clause-entered c =
    let at = rw c.deref.ensures.value at c.in_ok-place.ensures.slot in
    λ e. present-entered c.self.inside.slots.items (get nat_eq c.self.inside.places) c.self.invariant c.args.object c.in_ok-place.place c.in_ok-place.holding at c.in_ok-place.ensures.object
    c.in_ok-place.holding.thread 1
    ∙ ap (λ (s : HeldList). entered_in s.held c.args.object c.in_ok-place.holding.thread 1) c.self.view_is
    ∙ ap (λ t. entered_in c.args.self.now.held c.args.object t 1) (sym c.if-thread-holding.false)
