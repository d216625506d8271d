use Rattle.std.proofs.Common.{◌≡◌, ℕ, add-one, arith, subst}
use Rattle.dv_frames.specs.Heads.{frame}
use Rattle.dv_local.proofs.Looping.{Reached, ran_all, ran_some, reached_on}
use Rattle.dv_local.proofs.step.steps.Goals as goal

pub returns-then-not-step : goal.returns-then-not-step
returns-then-not-step c =
    ran_some c.args.units.now c.args.most c.loop-done.done (frame c.args.head.now c.args.words.now) (frame c.loop-done.head c.loop-done.words)
    (frame c.step.new.head c.step.new.words) (omega arith) c.loop-done.invariant c.if-not-step.ensures

pub loop-done-preserved : goal.loop-done-preserved
loop-done-preserved c =
    rw add-one
    (reached_on c.args.units.now c.loop-done.done (frame c.args.head.now c.args.words.now) (frame c.loop-done.head c.loop-done.words)
    (frame c.step.new.head c.step.new.words) c.loop-done.invariant c.if-not-step.ensures)

pub returns : goal.returns
returns c =
    let all : c.loop-done.done ≡ c.args.most = omega (arith, c.loop-done-test.false, c.loop-done.auto.done-end) in
    let s = frame c.args.head.now c.args.words.now in
    let t = frame c.loop-done.head c.loop-done.words in
    ran_all c.args.units.now c.args.most s t (subst (λ (n : ℕ). Reached c.args.units.now n s t) all c.loop-done.invariant)
