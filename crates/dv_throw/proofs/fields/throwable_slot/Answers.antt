use Rattle.std.proofs.Common.{◌≡◌, ◌<◌, ◌^◌, length, arith, rules, ap, sym, ◌∙◌}
use Rattle.dv_defs.specs.Images.{Image}
use Rattle.dv_machine.specs.Unwinding.{is_named_field}
use Rattle.law_linking.proofs.ImageMembers.{image_fields_few}
use Rattle.dv_throw.proofs.Slots.{slot_on}
use Rattle.dv_throw.proofs.fields.throwable_slot.Goals as goal

pub overflow_cast-place : goal.overflow_cast-place
overflow_cast-place c =
    let few = image_fields_few _ c.image.invariant.0 in
    let same = ap length c.items-fields.ensures in
    let below : c.loop-place.place < 2 ^ 32 = omega (arith, few, same) in
    search rules

pub loop-place-preserved : goal.loop-place-preserved
loop-place-preserved c =
    let same : c.items-fields.result.now ≡ c.args.image.now.fields = c.items-fields.ensures ∙ ap (λ (i : Image). i.fields) c.image.view_is in
    let within : c.loop-place.place < length c.args.image.now.fields = omega (arith, ap length same) in
    let field = sym (ap (is_named_field c.number_named-class.result.0 c.args.name.now) c.field_at.ensures) in
    c.loop-place.invariant ∙
    slot_on c.args.image.now c.number_named-class.result.0 c.args.name.now c.args.image.now.fields c.loop-place.place within
    (field ∙ (sym c.is_named_field.ensures ∙ c.if-is_named_field.false))
