use Rattle.std.proofs.lemmas.Result.{IfOk-weaker}
use Rattle.dv_typing.specs.Statics.{At}
use Rattle.dv_ops.specs.Meaning.{code_of, meant}
use Rattle.dv_effects.specs.Effects.{IsStep}
use Rattle.dv_plan.proofs.Stepping.{of_fetched}
use Rattle.dv_plan.proofs.steps.step_from.Goals as goal

pub returns-clause-step : goal.returns-clause-step
returns-clause-step c x fetched =
    let code = code_of c.args.code.now in
    let y : At = record { op = meant code c.args.at c.op_at.result.0; next = c.op_at.result.1 } in
    IfOk-weaker c.step_of.result (IsStep c.step_of.new.bases code c.args.at y.op) (IsStep c.step_of.new.bases code c.args.at x.op)
    (λ step is. of_fetched c.args.image.now c.step_of.new.bases code c.args.at y x step c.op_at.ensures.fetched fetched is)
    (c.step_of.ensures.step code)
