use Rattle.std.proofs.Common.{ap, length, nat_eq, None, ◌≡◌, ◌∙◌}
use Rattle.std.specs.HashMap.{get}
use Rattle.dv_machine.specs.Monitors.{entered_in, held_in}
use Rattle.dv_monitor.specs.Slots.{HeldList, mapped, present}
use Rattle.dv_monitor.proofs.PlaceLaws.{free-unmapped, indexed-added, present-added}
use Rattle.dv_monitor.proofs.holdings.Holdings.add.Goals as goal

pub note-requires-clause-new : goal.note-requires-clause-new
note-requires-clause-new c =
    let free : held_in (present c.self.inside.slots.items) c.args.object ≡ None = ap (λ (s : HeldList). held_in s.held c.args.object) c.self.view_is ∙ c.requires.free in
    free-unmapped c.self.inside.slots.items (get nat_eq c.self.inside.places) c.args.object c.self.invariant free

pub invariant_of-self : goal.invariant_of-self
invariant_of-self c =
    let free : held_in (present c.self.inside.slots.items) c.args.object ≡ None = ap (λ (s : HeldList). held_in s.held c.args.object) c.self.view_is ∙ c.requires.free in
    let there : get nat_eq c.note.new.places c.args.object ≡ mapped (length c.self.inside.slots.items) =
    c.note.ensures.there ∙ ap mapped (c.len.ensures ∙ c.self.inside.slots.ok.0) in
    rw c.push_reserved.ensures.items
    (indexed-added c.self.inside.slots.items (get nat_eq c.self.inside.places) (get nat_eq c.note.new.places)
    (record { object = c.args.object; thread = c.args.thread; count = c.args.count }) c.self.invariant free there c.note.ensures.others)

pub returns-clause-added : goal.returns-clause-added
returns-clause-added c =
    let free : held_in (present c.self.inside.slots.items) c.args.object ≡ None = ap (λ (s : HeldList). held_in s.held c.args.object) c.self.view_is ∙ c.requires.free in
    rw c.push_reserved.ensures.items
    (present-added c.self.inside.slots.items (get nat_eq c.self.inside.places) c.args.object c.args.thread c.args.count c.self.invariant free)
    ∙ ap (λ (s : HeldList). entered_in s.held c.args.object c.args.thread c.args.count) c.self.view_is
