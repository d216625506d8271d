use Rattle.std.proofs.Common.{ap, nat_eq, sym, ◌∙◌}
use Rattle.std.specs.HashMap.{get}
use Rattle.dv_machine.specs.Monitors.{given_up}
use Rattle.dv_monitor.specs.Slots.{HeldList}
use Rattle.dv_monitor.proofs.PlaceLaws.{given_up-free}
use Rattle.dv_monitor.proofs.holdings.Holdings.give_up.Goals as goal

pub returns-in_default-clause-held : goal.returns-in_default-clause-held
returns-in_default-clause-held c =
    let free = rw c.deref.ensures.value at c.in_default.ensures.held in
    ap (λ (s : HeldList). s.held) (sym c.self.view_is)
    ∙ given_up-free c.self.inside.slots.items (get nat_eq c.self.inside.places) c.args.object c.self.invariant (sym free)
    ∙ ap (λ (s : HeldList). given_up s.held c.args.object) c.self.view_is
