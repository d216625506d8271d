use Rattle.std.proofs.Common.{◌≡◌, None, ap, subst}
use Rattle.std.specs.Prelude.{option_map}
use Rattle.std.proofs.lemmas.Result.{err_from_is_err_and}
use Rattle.dv_defs.specs.declared.class.FieldDef.{FieldDef}
use Rattle.dv_defs.specs.declared.names.Ty.{Ty}
use Rattle.dv_defs.specs.LinkFaults.{Fails, found, no_type}
use Rattle.dv_defs.specs.Numbering.{declared}
use Rattle.dv_hier.proofs.AboveLaws.{first_in_more, first_in_told}
use Rattle.dv_hier.proofs.above.check_fields.Goals as goal

pub returns-in_err-check_type : goal.returns-in_err-check_type
returns-in_err-check_type c =
    let p = err_from_is_err_and c.from_residual.result c.from_residual.ensures.1 in
    λ cs boot known.
    let at_item =
    subst (λ (t : Ty). Fails c.in_err-check_type.field-0.0 (option_map (found c.args.class.now) (no_type (declared cs boot) t)))
    (ap (λ (f : FieldDef). f.ty) c.field.view_is) (c.in_err-check_type.ensures cs boot known) in
    rw (p.1, p.2)
    (first_in_told (λ (f : FieldDef). no_type (declared cs boot) f.ty) c.args.class.now c.in_err-check_type.field-0.0 c.args.fields.now c.loop-field.field-index c.field-item.result
    (c.loop-field.invariant cs boot known) c.loop-field-test.true c.field-item.is at_item)

pub loop-field-preserved : goal.loop-field-preserved
loop-field-preserved c =
    λ cs boot known.
    let at_item =
    subst (λ (t : Ty). option_map (found c.args.class.now) (no_type (declared cs boot) t) ≡ None)
    (ap (λ (f : FieldDef). f.ty) c.field.view_is) (c.in_ok-check_type.ensures cs boot known) in
    first_in_more (λ (f : FieldDef). no_type (declared cs boot) f.ty) c.args.class.now c.args.fields.now c.loop-field.field-index c.field-item.result
    (c.loop-field.invariant cs boot known) c.loop-field-test.true c.field-item.is at_item
