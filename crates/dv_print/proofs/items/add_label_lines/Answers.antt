use Rattle.std.proofs.Common.{arith}
use Rattle.std.proofs.lemmas.Grind.{common_steps}
use Rattle.std.proofs.lemmas.Result.{IfOk-from_err}
use Rattle.dv_print.specs.Draft.{label_line}
use Rattle.dv_print.proofs.Steps.Appends.{one_further}
use Rattle.dv_print.proofs.items.add_label_lines.Goals as goal

pub loop-name-preserved : goal.loop-name-preserved
loop-name-preserved c = one_further label_line _ _ _ _ _ _ c.loop-name-test.true c.name-item.is c.loop-name.invariant c.in_ok-add_label_line.ensures

pub returns-in_err-add_label_line : goal.returns-in_err-add_label_line
returns-in_err-add_label_line c = IfOk-from_err c.from_residual.result _ c.from_residual.ensures.0

pub returns : goal.returns
returns c = grind (arith, common_steps)
