use Rattle.std.proofs.Common.{arith}
use Rattle.std.proofs.lemmas.Grind.{common_steps}
use Rattle.std.proofs.lemmas.Result.{IfOk-from_err}
use Rattle.dv_print.specs.Draft.{catch_text}
use Rattle.dv_print.proofs.Steps.Appends.{one_further}
use Rattle.dv_print.proofs.catches.add_catches.Goals as goal

pub loop-catch-preserved : goal.loop-catch-preserved
loop-catch-preserved c = one_further catch_text _ _ _ _ _ _ c.loop-catch-test.true c.catch-item.is c.loop-catch.invariant c.in_ok-add_catch.ensures

pub returns-in_err-add_catch : goal.returns-in_err-add_catch
returns-in_err-add_catch c = IfOk-from_err c.from_residual.result _ c.from_residual.ensures.0

pub returns : goal.returns
returns c = grind (arith, common_steps)
