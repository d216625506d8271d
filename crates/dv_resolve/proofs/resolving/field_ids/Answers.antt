use Rattle.std.proofs.Common.{sym, ap, ◌∙◌}
use Rattle.dv_defs.specs.LookUp.{field_named}
use Rattle.dv_hier.proofs.NumberingLaws.{given_more, none_more}
use Rattle.dv_resolve.specs.Ids.{field_id}
use Rattle.dv_resolve.proofs.IdLaws.{field_given, field_none}
use Rattle.dv_resolve.proofs.resolving.field_ids.Goals as goal
use Rattle.dv_resolve.proofs.resolving.field_ids.Goals.{in-Some+in_ok-push, in_default}

pub loop-field-preserved : goal.loop-field-preserved
loop-field-preserved c =
    let refs = c.args.fields.now in
    let i = c.loop-field.field-index in
    let one = c.field-item.result in
    let ids = c.loop-field.ids.items in
    λ image known.
    elim c.match-field_named.branch [
      | in-Some+in_ok-push w ↦
          given_more (field_named image) field_id refs i one (record { 0 = w.in-Some.member.id }) ids c.match-field_named.ids.items c.loop-field-test.true c.field-item.is
          (c.loop-field.invariant image known) (field_given w.in-Some.member (field_named image one) (w.in-Some.ensures image known)) (ap (λ v. v.items) w.ids-is ∙ w.in_ok-push.ensures.items)
      | in_default w ↦
          none_more (field_named image) field_id refs i one ids c.match-field_named.ids.items c.loop-field-test.true c.field-item.is
          (c.loop-field.invariant image known) (field_none (field_named image one) (sym w.in_default.is ∙ c.field_named.ensures image known)) (ap (λ v. v.items) w.ids-is)
    ]
