use Rattle.std.proofs.Common.{ap, arith}
use Rattle.dv_defs.specs.declared.run.Limits.{Limits}
use Rattle.dv_sound.proofs.Slices.{done_few, going_on}
use Rattle.dv_sound.proofs.lending.take_steps.Goals as goal

pub returns-then-steps-gt0-clause-done : goal.returns-then-steps-gt0-clause-done
returns-then-steps-gt0-clause-done c T m good at made stands =
    let image = c.args.image.now in
    let is = c.affordable-steps.ensures.exact T m good at in
    let few = done_few image m c.args.slice.now.steps in
    let some = c.if-steps-gt0.true in
    let steps = at.simulated.stands.steps in
    let limits = ap (λ (l : Limits). l.budget) at.simulated.stands.limits in
    let spent = at.spent in
    c.do_steps.ensures T m good at (going_on image m c.args.slice.now.steps (omega (arith, is, some))) made stands c.affordable-steps.ensures.few (omega (arith, is, few, steps, limits, spent))
