use Rattle.std.proofs.Common.{arith}
use Rattle.std.proofs.lemmas.Result.{err_from_is_err_and}
use Rattle.dv_machine.specs.Replaying.{steps_of}
use Rattle.dv_sound.proofs.Played.{left_on, left_refused, refused_steps}
use Rattle.dv_sound.proofs.playing.play.Goals as goal

pub returns-in_err-left : goal.returns-in_err-left
returns-in_err-left c =
    let p = err_from_is_err_and c.from_residual.result c.from_residual.ensures.1 in
    rw (p.1, p.2) (left_refused c.args.image.now c.args.vm.now c.loop-left.vm (steps_of c.args.image.now c.args.entry c.args.thread c.args.steps) (steps_of c.args.image.now c.args.entry c.args.thread c.loop-left.left) c.in_err-left.field-0.0 c.loop-left.invariant
    (λ T m good at. refused_steps c.args.image.now c.args.entry c.args.thread c.loop-left.left m c.in_err-left.field-0.0 (omega (arith, c.loop-left-test.true)) (c.in_err-left.ensures.plays T m good at)))

pub loop-left-preserved : goal.loop-left-preserved
loop-left-preserved c =
    left_on c.args.image.now c.args.vm.now c.loop-left.vm c.play_some.new.vm (steps_of c.args.image.now c.args.entry c.args.thread c.args.steps) c.args.entry c.args.thread c.in_ok-left.field-0 c.loop-left.left
    (c.in_ok-left.ensures.few (omega (arith, c.loop-left-test.true))) c.loop-left.invariant c.in_ok-left.ensures.plays
