use Rattle.std.proofs.Common.{◌≡◌, ◌∙◌, Ok, ap, sym, subst, arith}
use Rattle.std.specs.Prelude.{◌&&◌}
use Rattle.std.specs.declared.alloc.AllocError.{AllocError}
use Rattle.dv_words.specs.Running as words
use Rattle.dv_core.specs.declared.vm.Step.{Step}
use Rattle.dv_core.specs.Machines.{machine_of}
use Rattle.dv_sound.specs.Moves.{Steps}
use Rattle.dv_sound.proofs.Going.{may_is, same_goes}
use Rattle.dv_sound.proofs.Played.{led_one, led_run, still}
use Rattle.dv_sound.proofs.playing.play_some.Goals as goal

pub returns-then-not-goes_on-clause-plays : goal.returns-then-not-goes_on-clause-plays
returns-then-not-goes_on-clause-plays c T m good at =
    let i = c.args.image.now in
    let v = c.args.vm.now in
    let t = c.args.thread in
    c.refusal.ensures T m good at t (sym (may_is i T v m good at t) ∙ ap (λ b. b && words.runnable i (machine_of v) t) (sym c.goes_on.ensures ∙ c.if-not-goes_on.true))

pub returns-then-done-gt0-clause-plays : goal.returns-then-done-gt0-clause-plays
returns-then-done-gt0-clause-plays c T m good at =
    led_run c.args.image.now T c.args.entry c.args.thread c.args.left c.run_on-done.result m c.run_on-done.new.vm
    (c.run_on-done.ensures.ran T m good at (sym c.goes_on.ensures ∙ c.if-not-goes_on.false))

pub returns-in-Done-clause-plays : goal.returns-in-Done-clause-plays
returns-in-Done-clause-plays c T m good at =
    let i = c.args.image.now in
    let goes = sym c.goes_on.ensures ∙ c.if-not-goes_on.false in
    let same : c.run_on-done.result ≡ 0 = (let z = c.if-done-gt0.false in omega (arith, z)) in
    let now = still i T m c.args.entry c.args.thread c.args.left c.run_on-done.result c.run_on-done.new.vm same (c.run_on-done.ensures.ran T m good at goes) in
    let on = same_goes i T c.run_on-done.new.vm c.args.vm.now m now at ∙ goes in
    let d = subst (λ (x : Step). Steps {E = AllocError} (Ok x) i T m c.args.thread c.run_on-done.new.vm c.step_on.new.vm) c.in-Done.is (c.in_ok-stepped.ensures.steps T m good now on) in
    led_one i T c.args.entry c.args.thread m c.step_on.new.vm d.0 d.1

pub returns-in-Held-clause-plays : goal.returns-in-Held-clause-plays
returns-in-Held-clause-plays c T m good at =
    let i = c.args.image.now in
    let goes = sym c.goes_on.ensures ∙ c.if-not-goes_on.false in
    let same : c.run_on-done.result ≡ 0 = (let z = c.if-done-gt0.false in omega (arith, z)) in
    let now = still i T m c.args.entry c.args.thread c.args.left c.run_on-done.result c.run_on-done.new.vm same (c.run_on-done.ensures.ran T m good at goes) in
    let on = same_goes i T c.run_on-done.new.vm c.args.vm.now m now at ∙ goes in
    let d = subst (λ (x : Step). Steps {E = AllocError} (Ok x) i T m c.args.thread c.run_on-done.new.vm c.step_on.new.vm) c.in-Held.is (c.in_ok-stepped.ensures.steps T m good now on) in
    c.refusal-in-Held.ensures T m good d.1.stands c.args.thread d.0
