use Rattle.std.proofs.Common.{arith}
use Rattle.std.proofs.lemmas.Grind.{common_steps}
use Rattle.std.proofs.lemmas.Result.{IfOk-from_err}
use Rattle.dv_print.specs.Raw.{type_line}
use Rattle.dv_print.proofs.Steps.Appends.{one_further}
use Rattle.dv_print.proofs.raw.add_type_lines.Goals as goal

pub loop-ty-preserved : goal.loop-ty-preserved
loop-ty-preserved c = one_further type_line _ _ _ _ _ _ c.loop-ty-test.true c.ty-item.is c.loop-ty.invariant c.in_ok-add_type_line.ensures

pub returns-in_err-add_type_line : goal.returns-in_err-add_type_line
returns-in_err-add_type_line c = IfOk-from_err c.from_residual.result _ c.from_residual.ensures.0

pub returns : goal.returns
returns c = grind (arith, common_steps)
