use Rattle.std.proofs.Common.{rules, ◌<◌, ◌∙◌, ap, length, sym}
use Rattle.std.proofs.lemmas.Option.{same_Some}
use Rattle.dv_monitor.specs.Slots.{object_in}
use Rattle.dv_monitor.proofs.PlaceLaws.{within-object}
use Rattle.dv_monitor.proofs.slots.find_far.Goals as goal

pub bounds-slots-place : goal.bounds-slots-place
bounds-slots-place c =
    within-object c.args.slots.now c.in_ok-place.field-0.now c.args.object (c.requires.stands c.args.object c.in_ok-place.field-0.now (sym c.in_ok-place.ensures.value))

pub offset_bounds-slots-place : goal.offset_bounds-slots-place
offset_bounds-slots-place c =
    let within : c.in_ok-place.field-0.now < length c.args.slots.now =
    within-object c.args.slots.now c.in_ok-place.field-0.now c.args.object (c.requires.stands c.args.object c.in_ok-place.field-0.now (sym c.in_ok-place.ensures.value)) in
    search rules

pub returns-clause-object : goal.returns-clause-object
returns-clause-object c =
    same_Some c.in_ok-holding.holding.object c.args.object
    (sym (ap object_in c.in_ok-holding.was) ∙ c.requires.stands c.args.object c.in_ok-place.field-0.now (sym c.in_ok-place.ensures.value))
