use Rattle.std.proofs.lemmas.Result.{err_from_is_err_and}
use Rattle.dv_defs.specs.LinkFaults.{private_method}
use Rattle.dv_hier.proofs.AboveLaws.{first_in_more, first_in_told}
use Rattle.dv_resolve.proofs.pools.check_method_access.Goals as goal

pub returns-in_err-check_private_method : goal.returns-in_err-check_private_method
returns-in_err-check_private_method c =
    let p = err_from_is_err_and c.from_residual.result c.from_residual.ensures.1 in
    λ image known.
    rw (p.1, p.2)
    (first_in_told (private_method image c.args.place) c.args.class.now c.in_err-check_private_method.field-0.0 c.args.methods.now c.loop-method.method-index c.method-item.result
    (c.loop-method.invariant image known) c.loop-method-test.true c.method-item.is (c.in_err-check_private_method.ensures image known))

pub loop-method-preserved : goal.loop-method-preserved
loop-method-preserved c =
    λ image known.
    first_in_more (private_method image c.args.place) c.args.class.now c.args.methods.now c.loop-method.method-index c.method-item.result
    (c.loop-method.invariant image known) c.loop-method-test.true c.method-item.is (c.in_ok-check_private_method.ensures image known)
