use Rattle.std.proofs.Common.{arith}
use Rattle.std.proofs.lemmas.Grind.{common_steps}
use Rattle.std.proofs.lemmas.Result.{IfOk-from_err}
use Rattle.dv_print.specs.Raw.{field_ref_line}
use Rattle.dv_print.proofs.Steps.Appends.{one_further}
use Rattle.dv_print.proofs.raw.add_field_lines.Goals as goal

pub loop-field-preserved : goal.loop-field-preserved
loop-field-preserved c = one_further field_ref_line _ _ _ _ _ _ c.loop-field-test.true c.field-item.is c.loop-field.invariant c.in_ok-add_field_line.ensures

pub returns-in_err-add_field_line : goal.returns-in_err-add_field_line
returns-in_err-add_field_line c = IfOk-from_err c.from_residual.result _ c.from_residual.ensures.0

pub returns : goal.returns
returns c = grind (arith, common_steps)
