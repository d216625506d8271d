use Rattle.std.proofs.Common.{sym}
use Rattle.std.proofs.lemmas.Result.{err_from_is_err_and}
use Rattle.dv_defs.specs.LinkFaults.{body_wrong}
use Rattle.dv_hier.proofs.AboveLaws.{first_in_more, first_in_told}
use Rattle.dv_vtable.proofs.MethodLemmas.{none_told}
use Rattle.dv_vtable.proofs.bodies.check_bodies.Goals as goal

pub returns-in_err-check_body : goal.returns-in_err-check_body
returns-in_err-check_body c =
    let p = err_from_is_err_and c.from_residual.result c.from_residual.ensures.1 in
    rw (p.1, p.2, sym c.items-method-items.ensures)
    (first_in_told (body_wrong c.args.boot c.args.place c.args.class.now) c.args.class.now.name c.in_err-check_body.field-0.0 c.items-method-items.result.now
    c.loop-method.method-index c.method-item.result c.loop-method.invariant c.loop-method-test.true c.method-item.is c.in_err-check_body.ensures)

pub loop-method-preserved : goal.loop-method-preserved
loop-method-preserved c =
    first_in_more (body_wrong c.args.boot c.args.place c.args.class.now) c.args.class.now.name c.items-method-items.result.now
    c.loop-method.method-index c.method-item.result c.loop-method.invariant c.loop-method-test.true c.method-item.is c.in_ok-check_body.ensures

pub returns : goal.returns
returns c =
    none_told (body_wrong c.args.boot c.args.place c.args.class.now) c.args.class.now.name c.items-method-items.result.now c.args.class.now.methods
    c.loop-method.method-index c.items-method-items.ensures c.loop-method-test.false c.loop-method.invariant
