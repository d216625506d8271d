use Rattle.std.proofs.Common.{arith}
use Rattle.std.proofs.lemmas.Grind.{common_steps}
use Rattle.std.proofs.lemmas.Result.{IfOk-from_err}
use Rattle.dv_print.specs.Raw.{string_line}
use Rattle.dv_print.proofs.Steps.Appends.{one_further}
use Rattle.dv_print.proofs.raw.add_string_lines.Goals as goal

pub loop-chars-preserved : goal.loop-chars-preserved
loop-chars-preserved c = one_further string_line _ _ _ _ _ _ c.loop-chars-test.true c.chars-item.is c.loop-chars.invariant c.in_ok-add_string_line.ensures

pub returns-in_err-add_string_line : goal.returns-in_err-add_string_line
returns-in_err-add_string_line c = IfOk-from_err c.from_residual.result _ c.from_residual.ensures.0

pub returns : goal.returns
returns c = grind (arith, common_steps)
