use Rattle.std.proofs.Common.{◌≡◌, true, false, length, sym, ap, ◌∙◌, arith}
use Rattle.dv_machine.specs.Running.{runnable}
use Rattle.dv_sound.proofs.Runnable.{count_held, count_runs, from_none}
use Rattle.dv_sound.proofs.safe.SafeVm.runnable_count.Goals as goal
use Rattle.dv_sound.proofs.safe.SafeVm.runnable_count.Goals.{else-runnable, then-runnable}

pub loop-thread-preserved : goal.loop-thread-preserved
loop-thread-preserved c =
    elim c.if-runnable.branch [
      | then-runnable w ↦ record {
        few = let before = c.loop-thread.invariant.few in let now = w.count-is in omega (arith, before, now);
        counted = λ main m at.
            let image = c.args.self.now.verified.image in
            let k = c.loop-thread.thread in
            let end = c.threads-thread-end.ensures main m at in
            let less = c.loop-thread-test.true in
            let is : runnable image m k ≡ true = sym (c.runnable.ensures main m at) ∙ w.if-runnable.true in
            let one = count_runs image m k (omega (arith, end, less)) is in
            let before = c.loop-thread.invariant.counted main m at in
            let now = w.count-is in
            omega (arith, one, before, now);
      }
      | else-runnable w ↦ record {
        few = let before = c.loop-thread.invariant.few in let now = w.count-is in omega (arith, before, now);
        counted = λ main m at.
            let image = c.args.self.now.verified.image in
            let k = c.loop-thread.thread in
            let end = c.threads-thread-end.ensures main m at in
            let less = c.loop-thread-test.true in
            let is : runnable image m k ≡ false = sym (c.runnable.ensures main m at) ∙ w.if-runnable.false in
            let none = count_held image m k (omega (arith, end, less)) is in
            let before = c.loop-thread.invariant.counted main m at in
            let now = w.count-is in
            omega (arith, none, before, now);
      }
    ]

pub returns : goal.returns
returns c main m at =
    let image = c.args.self.now.verified.image in
    let end = c.threads-thread-end.ensures main m at in
    let over = c.loop-thread-test.false in
    let none = ap length (from_none image m c.loop-thread.thread (omega (arith, end, over))) in
    let all = c.loop-thread.invariant.counted main m at in
    omega (arith, none, all)
