use Rattle.std.proofs.Common.{◌∙◌, sym, arith}
use Rattle.dv_sound.proofs.Going.{may_parts, watchable}
use Rattle.dv_sound.proofs.Turning.{goes_there, last_turned, stays_there}
use Rattle.dv_sound.proofs.moves.take_turn.Goals as goal

pub returns-then-next_is_local-clause-turned : goal.returns-then-next_is_local-clause-turned
returns-then-next_is_local-clause-turned c T m good at may =
    let local = sym (c.next_is_local.ensures (watchable c.args.image.now T c.args.vm.now m good at)) ∙ c.if-next_is_local.true in
    c.turn_locally.ensures.turned T m good at (may_parts c.args.image.now m c.args.thread may).0 (goes_there c.args.image.now T c.args.vm.now m c.args.thread good at may local)

pub returns-then-next_is_local-clause-others : goal.returns-then-next_is_local-clause-others
returns-then-next_is_local-clause-others c T m good at may =
    let local = sym (c.next_is_local.ensures (watchable c.args.image.now T c.args.vm.now m good at)) ∙ c.if-next_is_local.true in
    c.turn_locally.ensures.others T m good at (may_parts c.args.image.now m c.args.thread may).0 (goes_there c.args.image.now T c.args.vm.now m c.args.thread good at may local)

pub returns-else-next_is_local-clause-turned : goal.returns-else-next_is_local-clause-turned
returns-else-next_is_local-clause-turned c T m good at may =
    let other = sym (c.next_is_local.ensures (watchable c.args.image.now T c.args.vm.now m good at)) ∙ c.if-next_is_local.false in
    last_turned c.args.image.now T m c.args.thread c.args.most c.args.vm.now c.last_on.new.vm c.last_on.result (omega (arith, c.if-most-eq0.false))
    (stays_there c.args.image.now T c.args.vm.now m c.args.thread good at may other) (c.last_on.ensures.last T m good at)
