use Rattle.std.proofs.Common.{◌∙◌}
use Rattle.dv_ops.specs.Meaning.{meant}
use Rattle.dv_effects.proofs.StepMade.{step_made}
use Rattle.dv_effects.proofs.steps.step_of.Goals as goal

pub returns-clause-step : goal.returns-clause-step
returns-clause-step c = λ code.
    step_made c.effect_of.new.bases c.pending_after.new.bases c.class_made.new.bases c.in_ok-pending.ensures.wider c.in_ok-makes.ensures.wider c.args.image.now
    (c.in_ok-makes.ensures.wider.image ∙ (c.in_ok-pending.ensures.wider.image ∙ (c.in_ok-effect.ensures.wider.image ∙ c.requires.image)))
    code c.args.at (meant code c.args.at c.args.op.now) c.in_ok-effect.effect c.in_ok-pending.pending c.in_ok-makes.makes
    c.in_ok-effect.ensures.words (c.in_ok-effect.ensures.registers code) (c.in_ok-effect.ensures.this code) (c.in_ok-pending.ensures.told code c.args.at)
    c.in_ok-makes.ensures.word (c.in_ok-makes.ensures.told code c.args.at)
