use Rattle.std.proofs.Common.{◌+◌, List, Option, sym, subst, ◌∙◌}
use Rattle.dv_effects.specs.declared.effects.Step.{Step}
use Rattle.dv_ops.specs.Meaning.{code_of}
use Rattle.dv_bases.proofs.Wider.{wider_trans}
use Rattle.dv_plan.specs.Steps.{AreStepsTo}
use Rattle.dv_plan.proofs.Stepping.{one_more}
use Rattle.dv_plan.proofs.steps.steps_of.Goals as goal

pub step_at-requires-clause-image : goal.step_at-requires-clause-image
step_at-requires-clause-image c = c.loop-at.invariant.wider.image ∙ c.requires.image

pub loop-at-preserved : goal.loop-at-preserved
loop-at-preserved c =
    let code = code_of c.args.code.now in
    let new = c.step_at.new.bases in
    let told = c.in_ok-step_at.ensures in
    record {
      wider = wider_trans c.args.bases.now c.loop-at.bases new c.loop-at.invariant.wider told.wider;
      steps = subst (λ ss. AreStepsTo c.args.image.now new code (c.loop-at.at + 1) ss) (sym {A = List (Option Step)} c.in_ok-push.ensures.items)
          (one_more c.args.image.now c.loop-at.bases new told.wider code c.loop-at.at c.loop-at.steps.items c.in_ok-step_at.field-0 c.loop-at.invariant.steps told.step);
    }
