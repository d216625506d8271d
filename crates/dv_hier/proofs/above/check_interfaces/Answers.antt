use Rattle.std.proofs.lemmas.Result.{err_from_is_err_and}
use Rattle.dv_defs.specs.LinkFaults.{no_class}
use Rattle.dv_defs.specs.Numbering.{declared}
use Rattle.dv_hier.proofs.AboveLaws.{first_in_more, first_in_told}
use Rattle.dv_hier.proofs.above.check_interfaces.Goals as goal

pub returns-in_err-check_name : goal.returns-in_err-check_name
returns-in_err-check_name c =
    let p = err_from_is_err_and c.from_residual.result c.from_residual.ensures.1 in
    λ cs boot known.
    rw (p.1, p.2)
    (first_in_told (no_class (declared cs boot)) c.args.class.now c.in_err-check_name.field-0.0 c.args.interfaces.now c.loop-name.name-index c.name-item.result
    (c.loop-name.invariant cs boot known) c.loop-name-test.true c.name-item.is (c.in_err-check_name.ensures cs boot known))

pub loop-name-preserved : goal.loop-name-preserved
loop-name-preserved c =
    λ cs boot known.
    first_in_more (no_class (declared cs boot)) c.args.class.now c.args.interfaces.now c.loop-name.name-index c.name-item.result
    (c.loop-name.invariant cs boot known) c.loop-name-test.true c.name-item.is (c.in_ok-check_name.ensures cs boot known)
