use Rattle.std.proofs.Common.{arith}
use Rattle.std.proofs.lemmas.Grind.{common_steps}
use Rattle.std.proofs.lemmas.Result.{IfOk-from_err}
use Rattle.dv_print.specs.Listing.{method_lines}
use Rattle.dv_print.proofs.Steps.Appends.{one_further}
use Rattle.dv_print.proofs.members.add_methods.Goals as goal

pub loop-method-preserved : goal.loop-method-preserved
loop-method-preserved c = one_further method_lines _ _ _ _ _ _ c.loop-method-test.true c.method-item.is c.loop-method.invariant c.in_ok-add_method.ensures

pub returns-in_err-add_method : goal.returns-in_err-add_method
returns-in_err-add_method c = IfOk-from_err c.from_residual.result _ c.from_residual.ensures.0

pub returns : goal.returns
returns c = grind (arith, common_steps)
