use Rattle.std.proofs.lemmas.Result.{err_from_is_err_and}
use Rattle.dv_defs.specs.declared.class.MethodDef.{MethodDef}
use Rattle.dv_defs.specs.LinkFaults.{no_proto}
use Rattle.dv_defs.specs.Numbering.{declared}
use Rattle.dv_hier.proofs.AboveLaws.{first_in_more, first_in_told}
use Rattle.dv_hier.proofs.above.check_methods.Goals as goal

pub returns-in_err-check_proto : goal.returns-in_err-check_proto
returns-in_err-check_proto c =
    let p = err_from_is_err_and c.from_residual.result c.from_residual.ensures.1 in
    λ cs boot known.
    rw (p.1, p.2)
    (first_in_told (λ (m : MethodDef). no_proto (declared cs boot) m.proto) c.args.class.now c.in_err-check_proto.field-0.0 c.args.methods.now c.loop-method.method-index c.method-item.result
    (c.loop-method.invariant cs boot known) c.loop-method-test.true c.method-item.is (c.in_err-check_proto.ensures cs boot known))

pub loop-method-preserved : goal.loop-method-preserved
loop-method-preserved c =
    λ cs boot known.
    first_in_more (λ (m : MethodDef). no_proto (declared cs boot) m.proto) c.args.class.now c.args.methods.now c.loop-method.method-index c.method-item.result
    (c.loop-method.invariant cs boot known) c.loop-method-test.true c.method-item.is (c.in_ok-check_proto.ensures cs boot known)
