use Rattle.std.proofs.Common.{arith}
use Rattle.std.proofs.lemmas.Grind.{common_steps}
use Rattle.std.proofs.lemmas.Result.{IfOk-from_err}
use Rattle.dv_print.specs.Raw.{handler_line}
use Rattle.dv_print.proofs.Steps.Appends.{one_read}
use Rattle.dv_print.proofs.raw.add_try.Goals as goal

pub loop-handler-preserved : goal.loop-handler-preserved
loop-handler-preserved c = one_read (handler_line c.args.types.now c.args.entry.now) _ _ _ _ _ _ c.loop-handler-test.true c.loop-handler.invariant c.in_ok-add_handler.ensures

pub returns-in_err-add_handler : goal.returns-in_err-add_handler
returns-in_err-add_handler c = IfOk-from_err c.from_residual.result _ c.from_residual.ensures.0

pub returns : goal.returns
returns c = grind (arith, common_steps)
