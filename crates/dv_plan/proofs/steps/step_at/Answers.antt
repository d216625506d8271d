use Rattle.std.proofs.Common.{refl, sym, ◌∙◌}
use Rattle.dv_ops.specs.Meaning.{code_of}
use Rattle.dv_plan.proofs.Stepping.{none_there}
use Rattle.dv_plan.proofs.steps.step_at.Goals as goal

pub returns-else-begins-clause-step : goal.returns-else-begins-clause-step
returns-else-begins-clause-step c = none_there c.args.image.now c.args.bases.now (code_of c.args.code.now) c.args.at c.requires.clean (sym c.requires.begins ∙ c.if-begins.false)

pub returns-in_ok-step_from-clause-step : goal.returns-in_ok-step_from-clause-step
returns-in_ok-step_from-clause-step c x fetched = (c.in_ok-step_from.field-0, refl, c.in_ok-step_from.ensures.step x fetched)
