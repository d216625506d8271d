use Rattle.std.proofs.lemmas.Result.{err_from_is_err_and}
use Rattle.dv_defs.specs.LinkFaults.{no_type}
use Rattle.dv_hier.proofs.AboveLaws.{first_in_more, first_in_told}
use Rattle.dv_resolve.proofs.pool_types.check_types.Goals as goal

pub returns-in_err-check_type : goal.returns-in_err-check_type
returns-in_err-check_type c =
    let p = err_from_is_err_and c.from_residual.result c.from_residual.ensures.1 in
    λ image known.
    rw (p.1, p.2)
    (first_in_told (no_type image) c.args.class.now c.in_err-check_type.field-0.0 c.args.types.now c.loop-ty.ty-index c.ty-item.result
    (c.loop-ty.invariant image known) c.loop-ty-test.true c.ty-item.is (c.in_err-check_type.ensures image known))

pub loop-ty-preserved : goal.loop-ty-preserved
loop-ty-preserved c =
    λ image known.
    first_in_more (no_type image) c.args.class.now c.args.types.now c.loop-ty.ty-index c.ty-item.result
    (c.loop-ty.invariant image known) c.loop-ty-test.true c.ty-item.is (c.in_ok-check_type.ensures image known)
