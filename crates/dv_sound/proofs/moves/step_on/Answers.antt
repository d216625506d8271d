use Rattle.dv_sound.proofs.Others.{keeps_step}
use Rattle.dv_sound.proofs.Stepping.{stepped, steppable}
use Rattle.dv_sound.proofs.moves.step_on.Goals as goal

pub returns-clause-steps : goal.returns-clause-steps
returns-clause-steps c T m good at goes =
    stepped c.args.image.now T c.args.vm.now m c.args.thread good at goes c.step.new.self c.reads_fit.ensures.fits c.step.result
    (c.step.ensures (steppable c.args.image.now T c.args.vm.now m c.args.thread good at goes))

pub returns-clause-others : goal.returns-clause-others
returns-clause-others c T m good at goes =
    keeps_step c.args.image.now c.args.thread c.args.vm.now c.step.new.self c.step.result _
    (c.step.ensures (steppable c.args.image.now T c.args.vm.now m c.args.thread good at goes))
