use Rattle.dv_top.specs.Printed.{method_lines}
use Rattle.dv_top.proofs.Written.{took_among, took_each}
use Rattle.dv_top.proofs.printed.write_methods.Goals as goal

pub returns-in_err-write_lines-clause-part : goal.returns-in_err-write_lines-clause-part
returns-in_err-write_lines-clause-part g c =
    took_among method_lines c.args.methods.now c.loop-method.method-index c.method-item.result _ _ _ c.loop-method-test.true c.method-item.is c.loop-method.invariant.0 c.in_err-write_lines.ensures.part

pub returns-clause-part : goal.returns-clause-part
returns-clause-part g c = took_each method_lines c.args.methods.now c.loop-method.method-index _ _ c.loop-method-test.false c.loop-method.invariant.0
