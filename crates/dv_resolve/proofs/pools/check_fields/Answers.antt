use Rattle.std.proofs.lemmas.Result.{err_from_is_err_and}
use Rattle.dv_defs.specs.LinkFaults.{no_field}
use Rattle.dv_hier.proofs.AboveLaws.{first_in_more, first_in_told}
use Rattle.dv_resolve.proofs.pools.check_fields.Goals as goal

pub returns-in_err-check_field : goal.returns-in_err-check_field
returns-in_err-check_field c =
    let p = err_from_is_err_and c.from_residual.result c.from_residual.ensures.1 in
    λ image known.
    rw (p.1, p.2)
    (first_in_told (no_field image) c.args.class.now c.in_err-check_field.field-0.0 c.args.fields.now c.loop-field.field-index c.field-item.result
    (c.loop-field.invariant image known) c.loop-field-test.true c.field-item.is (c.in_err-check_field.ensures image known))

pub loop-field-preserved : goal.loop-field-preserved
loop-field-preserved c =
    λ image known.
    first_in_more (no_field image) c.args.class.now c.args.fields.now c.loop-field.field-index c.field-item.result
    (c.loop-field.invariant image known) c.loop-field-test.true c.field-item.is (c.in_ok-check_field.ensures image known)
