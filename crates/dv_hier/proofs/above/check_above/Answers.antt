use Rattle.std.proofs.lemmas.Result.{err_from_is_err_and}
use Rattle.dv_defs.specs.LinkFaults.{wrong_above}
use Rattle.dv_defs.specs.Numbering.{declared}
use Rattle.dv_hier.proofs.AboveLaws.{classes_more, classes_told}
use Rattle.dv_hier.proofs.above.check_above.Goals as goal

pub returns-in_err-check_class : goal.returns-in_err-check_class
returns-in_err-check_class c =
    let p = err_from_is_err_and c.from_residual.result c.from_residual.ensures.1 in
    let cs = c.args.classes.now in
    let i = c.loop-class.class-index in
    λ boot.
    rw (p.1, p.2)
    (classes_told (wrong_above (declared cs boot)) c.in_err-check_class.field-0.0 cs i c.class-item.result
    (c.loop-class.invariant boot) c.loop-class-test.true c.class-item.is (c.in_err-check_class.ensures boot i))

pub loop-class-preserved : goal.loop-class-preserved
loop-class-preserved c =
    let cs = c.args.classes.now in
    let i = c.loop-class.class-index in
    λ boot.
    classes_more (wrong_above (declared cs boot)) cs i c.class-item.result
    (c.loop-class.invariant boot) c.loop-class-test.true c.class-item.is (c.in_ok-check_class.ensures boot i)
