use Rattle.std.proofs.Common.{arith}
use Rattle.std.proofs.lemmas.Grind.{common_steps}
use Rattle.std.proofs.lemmas.Result.{IfOk-from_err}
use Rattle.dv_names.specs.Written.{unit_text}
use Rattle.dv_print.proofs.Steps.Appends.{one_read}
use Rattle.dv_print.proofs.references.add_units.Goals as goal

pub loop-unit-preserved : goal.loop-unit-preserved
loop-unit-preserved c = one_read unit_text _ _ _ _ _ _ c.loop-unit-test.true c.loop-unit.invariant c.in_ok-add_unit.ensures

pub returns-in_err-add_unit : goal.returns-in_err-add_unit
returns-in_err-add_unit c = IfOk-from_err c.from_residual.result _ c.from_residual.ensures.0

pub returns : goal.returns
returns c = grind (arith, common_steps)
