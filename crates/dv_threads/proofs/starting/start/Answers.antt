use Rattle.std.proofs.Common.{◌≡◌, ◌<◌, ◌≤◌, true, false, Ok, length, refl, sym, ap, ◌∙◌, arith}
use Rattle.std.specs.Prelude.{◌==◌, is_some, position}
use Rattle.dv_defs.specs.declared.run.Limits.{Limits}
use Rattle.dv_defs.specs.declared.run.Named.TheVariants as named
use Rattle.dv_defs.specs.declared.run.Next.TheVariants as next
use Rattle.dv_machine.specs.State.{Throws}
use Rattle.dv_words.specs.Threads.{start_on, started_on, thread_with}
use Rattle.dv_threads.specs.Kept.{AreAsBefore, LeavesThreads}
use Rattle.dv_threads.specs.Starting.{run_of}
use Rattle.dv_threads.proofs.Begins.{count_is, few_enough, start_free, start_taken, thread_is, too_many}
use Rattle.dv_threads.proofs.Leaving.{led}
use Rattle.dv_threads.proofs.starting.start.Goals as goal

pub returns-then-is_some : goal.returns-then-is_some
returns-then-is_some c own h is sees room =
    let old = c.args.threads.now in
    let o = c.args.object in
    let found : is_some c.thread_with.result ≡ true = cc in
    let taken : is_some (thread_with h.threads o) ≡ true =
    ap is_some (thread_is old c.args.thread c.args.next own h is o ∙ (ap (position (λ x. x == o)) (sym c.deref.ensures.value) ∙ sym c.thread_with.ensures)) ∙ found in
    led (Ok (next.Throw named.IllegalThreadState)) (start_on h o) (Throws named.IllegalThreadState) (LeavesThreads old old own h) (AreAsBefore old old)
    (start_taken h o (thread_with h.threads o) taken)
    (refl, record { stacks = refl; ends = refl; objects = refl; monitors = refl })

pub returns-then-len-limits : goal.returns-then-len-limits
returns-then-len-limits c own h is sees room =
    let old = c.args.threads.now in
    let o = c.args.object in
    let found : is_some c.thread_with.result ≡ false = cc in
    let free : is_some (thread_with h.threads o) ≡ false =
    ap is_some (thread_is old c.args.thread c.args.next own h is o ∙ (ap (position (λ x. x == o)) (sym c.deref.ensures.value) ∙ sym c.thread_with.ensures)) ∙ found in
    let many : h.limits.threads ≤ length h.threads =
    omega (arith, count_is old c.args.thread c.args.next own h is o, ap (λ (l : Limits). l.threads) sees.limits, c.len.ensures, old.objects.ok.0, c.if-len-limits.true) in
    led (Ok (next.Throw named.OutOfMemory)) (start_on h o) (Throws named.OutOfMemory) (LeavesThreads old old own h) (AreAsBefore old old)
    (start_free h o (thread_with h.threads o) free ∙ too_many h (length h.threads) h.limits.threads (started_on h o (run_of h o)) many)
    (refl, record { stacks = refl; ends = refl; objects = refl; monitors = refl })

pub returns : goal.returns
returns c own h is sees room =
    let old = c.args.threads.now in
    let new = c.start_new.new.threads in
    let o = c.args.object in
    let found : is_some c.thread_with.result ≡ false = cc in
    let free : is_some (thread_with h.threads o) ≡ false =
    ap is_some (thread_is old c.args.thread c.args.next own h is o ∙ (ap (position (λ x. x == o)) (sym c.deref.ensures.value) ∙ sym c.thread_with.ensures)) ∙ found in
    let few : length h.threads < h.limits.threads =
    omega (arith, count_is old c.args.thread c.args.next own h is o, ap (λ (l : Limits). l.threads) sees.limits, c.len.ensures, old.objects.ok.0, c.if-len-limits.false) in
    led c.start_new.result (start_on h o) (started_on h o (run_of h o)) (LeavesThreads old new own h) (AreAsBefore old new)
    (start_free h o (thread_with h.threads o) free ∙ few_enough h (length h.threads) h.limits.threads (started_on h o (run_of h o)) few)
    (c.start_new.ensures own h is sees room)
