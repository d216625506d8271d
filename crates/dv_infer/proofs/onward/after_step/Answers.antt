use Rattle.std.proofs.Common.{List, Option, sym, subst}
use Rattle.dv_effects.specs.declared.effects.Step.{Step}
use Rattle.dv_effects.specs.Made.{AreFit, HasClasses}
use Rattle.dv_effects.proofs.StepWider.{step_has_room}
use Rattle.dv_ops.specs.Meaning.{code_of}
use Rattle.dv_infer.proofs.Planned.{has_step, step_is, has_classes}
use Rattle.dv_infer.proofs.onward.after_step.Goals as goal

pub step_at-step-requires-clause-there : goal.step_at-step-requires-clause-there
step_at-step-requires-clause-there c = has_step c.args.bases.now (code_of c.args.code.now) c.requires.ready c.args.plan.now c.requires.plan c.args.place c.requires.fits.0

pub after-requires : goal.after-requires
after-requires c =
    let names = c.args.bases.now in
    let code = code_of c.args.code.now in
    let insn = c.requires.ready.clean.each c.args.place c.requires.fits.0 in
    step_has_room names code c.args.place insn.0.op c.step_at-step.result
    (step_is names code c.requires.ready c.args.plan.now c.requires.plan c.args.place insn.0 c.step_at-step.result c.requires.place insn.1.fetched c.step_at-step.ensures)

pub returns-clause-words : goal.returns-clause-words
returns-clause-words c =
    let names = c.args.bases.now in
    let code = code_of c.args.code.now in
    let insn = c.requires.ready.clean.each c.args.place c.requires.fits.0 in
    let is = step_is names code c.requires.ready c.args.plan.now c.requires.plan c.args.place insn.0 c.step_at-step.result c.requires.place insn.1.fetched c.step_at-step.ensures in
    let classes = has_classes names code c.requires.ready c.args.plan.now c.requires.plan in
    let fit : AreFit names code c.args.words = record { are_words = c.requires.words; fits = c.requires.fits.1 } in
    c.after.ensures.words names code c.args.place insn.0.op is
    (subst (λ (steps : List (Option Step)). HasClasses names code c.args.plan.now.own steps) (sym c.as_slice.ensures.value) classes) fit

pub returns-clause-state : goal.returns-clause-state
returns-clause-state c x fetched =
    let names = c.args.bases.now in
    let code = code_of c.args.code.now in
    let is = step_is names code c.requires.ready c.args.plan.now c.requires.plan c.args.place x c.step_at-step.result c.requires.place fetched c.step_at-step.ensures in
    let classes = has_classes names code c.requires.ready c.args.plan.now c.requires.plan in
    let fit : AreFit names code c.args.words = record { are_words = c.requires.words; fits = c.requires.fits.1 } in
    c.after.ensures.state names code c.args.place x.op is
    (subst (λ (steps : List (Option Step)). HasClasses names code c.args.plan.now.own steps) (sym c.as_slice.ensures.value) classes) fit
