use Rattle.std.proofs.Common.{ap, nat_eq, refl, ◌∙◌}
use Rattle.std.specs.HashMap.{get}
use Rattle.dv_machine.specs.Monitors.{exited_in}
use Rattle.dv_monitor.specs.Slots.{HeldList}
use Rattle.dv_monitor.proofs.PlaceLaws.{exited-last, indexed-recounted, present-counted}
use Rattle.dv_monitor.proofs.holdings.Holdings.exit.Goals as goal

pub invariant_of-self-else-holding-le1 : goal.invariant_of-self-else-holding-le1
invariant_of-self-else-holding-le1 c =
    let at = rw c.deref.ensures.value at c.in-Some.ensures.slot in
    indexed-recounted c.self.inside.slots.items (get nat_eq c.self.inside.places) c.in-Some.place c.in-Some.holding _ c.self.invariant at refl

pub returns-then-holding-le1-clause-ok : goal.returns-then-holding-le1-clause-ok
returns-then-holding-le1-clause-ok c =
    let at = rw c.deref.ensures.value at c.in-Some.ensures.slot in
    c.take_out.ensures.present
    ∙ exited-last c.self.inside.slots.items (get nat_eq c.self.inside.places) c.self.invariant c.args.object c.in-Some.place c.in-Some.holding at c.in-Some.ensures.object c.if-holding-le1.true
    ∙ ap (λ (s : HeldList). exited_in s.held c.args.object) c.self.view_is

pub returns-else-holding-le1-clause-ok : goal.returns-else-holding-le1-clause-ok
returns-else-holding-le1-clause-ok c =
    let at = rw c.deref.ensures.value at c.in-Some.ensures.slot in
    present-counted c.self.inside.slots.items (get nat_eq c.self.inside.places) c.self.invariant c.args.object c.in-Some.place c.in-Some.holding at c.in-Some.ensures.object c.if-holding-le1.false
    ∙ ap (λ (s : HeldList). exited_in s.held c.args.object) c.self.view_is
