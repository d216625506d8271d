use Rattle.std.proofs.Common.{arith, rules, ◌++◌, [], ◌∷◌, ap, ◌∙◌}
use Rattle.std.specs.Prelude.{pos}
use Rattle.std.proofs.lemmas.Grind.{common_steps}
use Rattle.std.proofs.lemmas.Result.{IfOk-from_err}
use Rattle.dv_defs.specs.Numbers.{jump}
use Rattle.dv_print.proofs.Steps.Appends.{one_mapped}
use Rattle.dv_print.proofs.named.add_targets.Goals as goal

pub loop-target-preserved : goal.loop-target-preserved
loop-target-preserved c =
    one_mapped (jump c.args.base) _ _ (pos 0) _ _ _ c.loop-target-test.true c.loop-target.invariant
    (c.in_ok-push.ensures.items ∙ ap (λ to. c.loop-target.named.items ++ to ∷ []) (c.jump.ensures ∙ ap (jump c.args.base) (search rules)))

pub returns-in_err-push : goal.returns-in_err-push
returns-in_err-push c = IfOk-from_err c.from_residual.result _ c.from_residual.ensures.0

pub returns : goal.returns
returns c = grind (arith, common_steps)
