use Rattle.std.proofs.Common.{arith}
use Rattle.dv_sound.proofs.Attempts.{done_and_last, done_but_last, done_locally, goes_where_may, some_done}
use Rattle.dv_sound.proofs.Turning.{mixed_turn, whole_turn}
use Rattle.dv_sound.proofs.trying.try_steps.Goals as goal

pub returns-then-done-most-clause-done : goal.returns-then-done-most-clause-done
returns-then-done-most-clause-done c T m good at goes =
    done_locally c.args.image.now T m good c.args.vm.now at c.args.thread c.args.most c.run_on-done.result c.run_on-done.new.vm (c.run_on-done.ensures.ran T m good at goes) (c.run_on-done.ensures.others T m good at)

pub returns-in-Ok-clause-done : goal.returns-in-Ok-clause-done
returns-in-Ok-clause-done c T m good at goes =
    let r = c.run_on-done.ensures.ran T m good at goes in
    let few = c.run_on-done.ensures.few in
    done_and_last c.args.image.now T m good c.args.vm.now at c.args.thread c.args.most c.run_on-done.result c.run_on-done.new.vm c.last_on.new.vm r (c.run_on-done.ensures.others T m good at) c.in-Ok.last (omega (arith, few, c.if-done-most.false)) goes
    (c.in-Ok.ensures.last T r.after good r.stands) (c.last_on.ensures.others T r.after good r.stands)

pub returns-in-Err-clause-done : goal.returns-in-Err-clause-done
returns-in-Err-clause-done c T m good at goes =
    let r = c.run_on-done.ensures.ran T m good at goes in
    done_but_last c.args.image.now T m good c.args.vm.now at c.args.thread c.args.most c.run_on-done.result c.run_on-done.new.vm c.last_on.new.vm r (c.run_on-done.ensures.others T m good at) (c.in-Err.ensures.last T r.after good r.stands)

pub returns-then-done-most-clause-some : goal.returns-then-done-most-clause-some
returns-then-done-most-clause-some c T m good at may some none = omega (arith, some, c.if-done-most.true)

pub returns-in-Ok-clause-some : goal.returns-in-Ok-clause-some
returns-in-Ok-clause-some c T m good at may some none =
    let goes = goes_where_may c.args.image.now T m good c.args.vm.now at c.args.thread may in
    let r = c.run_on-done.ensures.ran T m good at goes in
    some_done c.args.image.now T m good c.args.vm.now at c.args.thread c.args.most c.run_on-done.result c.run_on-done.new.vm c.last_on.new.vm r (c.run_on-done.ensures.others T m good at) c.in-Ok.last may
    (c.in-Ok.ensures.last T r.after good r.stands)

pub returns-then-done-most-clause-turned : goal.returns-then-done-most-clause-turned
returns-then-done-most-clause-turned c T m good at goes whole =
    whole_turn c.args.image.now T m c.args.thread c.args.most c.run_on-done.new.vm c.run_on-done.result c.if-done-most.true (c.run_on-done.ensures.ran T m good at goes)

pub returns-in-Ok-clause-turned : goal.returns-in-Ok-clause-turned
returns-in-Ok-clause-turned c T m good at goes whole =
    let r = c.run_on-done.ensures.ran T m good at goes in
    let few = c.run_on-done.ensures.few in
    mixed_turn c.args.image.now T m c.args.thread c.args.most c.run_on-done.new.vm c.last_on.new.vm c.run_on-done.result c.in-Ok.last (omega (arith, few, c.if-done-most.false)) r (c.in-Ok.ensures.last T r.after good r.stands)
