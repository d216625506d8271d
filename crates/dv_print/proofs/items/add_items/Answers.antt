use Rattle.std.proofs.Common.{arith}
use Rattle.std.proofs.lemmas.Grind.{common_steps}
use Rattle.std.proofs.lemmas.Result.{IfOk-from_err}
use Rattle.dv_print.specs.Draft.{item_text}
use Rattle.dv_print.proofs.Steps.Appends.{one_further}
use Rattle.dv_print.proofs.items.add_items.Goals as goal

pub loop-item-preserved : goal.loop-item-preserved
loop-item-preserved c = one_further item_text _ _ _ _ _ _ c.loop-item-test.true c.item-item.is c.loop-item.invariant c.in_ok-add_item.ensures

pub returns-in_err-add_item : goal.returns-in_err-add_item
returns-in_err-add_item c = IfOk-from_err c.from_residual.result _ c.from_residual.ensures.0

pub returns : goal.returns
returns c = grind (arith, common_steps)
