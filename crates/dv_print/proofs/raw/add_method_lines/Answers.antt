use Rattle.std.proofs.Common.{arith}
use Rattle.std.proofs.lemmas.Grind.{common_steps}
use Rattle.std.proofs.lemmas.Result.{IfOk-from_err}
use Rattle.dv_print.specs.Raw.{method_ref_line}
use Rattle.dv_print.proofs.Steps.Appends.{one_further}
use Rattle.dv_print.proofs.raw.add_method_lines.Goals as goal

pub loop-method-preserved : goal.loop-method-preserved
loop-method-preserved c = one_further method_ref_line _ _ _ _ _ _ c.loop-method-test.true c.method-item.is c.loop-method.invariant c.in_ok-add_method_line.ensures

pub returns-in_err-add_method_line : goal.returns-in_err-add_method_line
returns-in_err-add_method_line c = IfOk-from_err c.from_residual.result _ c.from_residual.ensures.0

pub returns : goal.returns
returns c = grind (arith, common_steps)
