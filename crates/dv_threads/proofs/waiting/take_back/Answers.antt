use Rattle.std.proofs.Common.{◌≡◌, true, false, Ok, Some, refl, sym}
use Rattle.std.specs.Prelude.{is_some}
use Rattle.std.specs.Vec.{with_items}
use Rattle.dv_threads.specs.declared.threads.Threads.{Threads}
use Rattle.dv_defs.specs.declared.run.Next.TheVariants as next
use Rattle.dv_machine.specs.Monitors.{owner_of, resumed}
use Rattle.dv_monitor.specs.Waits.{wait_value}
use Rattle.dv_words.specs.Stacks.{gone}
use Rattle.dv_words.specs.Threads.{wait_step}
use Rattle.dv_threads.specs.Kept.{AreAsBefore, LeavesThreads}
use Rattle.dv_threads.proofs.Leaving.{blocked, goes_on, led, rewritten}
use Rattle.dv_threads.proofs.Owning.{back, not_free, not_told, resumes}
use Rattle.dv_threads.proofs.waiting.take_back.Goals as goal

pub returns-then-not-wait : goal.returns-then-not-wait
returns-then-not-wait c own h object is =
    let old = c.args.threads.now in
    let w = wait_value c.args.wait.now in
    led (Ok next.On) (wait_step h object (Some w)) _ (LeavesThreads old old own h) (AreAsBefore old old)
    (not_told h object old.monitors.monitors c.args.thread is.monitors is.number w c.if-not-wait.true)
    (blocked old old c.args.thread c.args.next own h is (record { stacks = refl; ends = refl; objects = refl; monitors = refl }))

pub returns-then-is_some : goal.returns-then-is_some
returns-then-is_some c own h object is =
    let old = c.args.threads.now in
    let w = wait_value c.args.wait.now in
    let taken : is_some (owner_of old.monitors.monitors w.object) ≡ true = cc in
    led (Ok next.On) (wait_step h object (Some w)) _ (LeavesThreads old old own h) (AreAsBefore old old)
    (not_free h object old.monitors.monitors c.args.thread is.monitors is.number w taken)
    (blocked old old c.args.thread c.args.next own h is (record { stacks = refl; ends = refl; objects = refl; monitors = refl }))

pub returns : goal.returns
returns c own h object is =
    let old = c.args.threads.now in
    let new : Threads = record { stacks = with_items old.stacks c.go_on.new.stacks; ends = old.ends; objects = old.objects; monitors = c.resume.new.self } in
    let w = wait_value c.args.wait.now in
    let free : is_some (owner_of old.monitors.monitors w.object) ≡ false = cc in
    led (Ok next.On) (wait_step h object (Some w)) _ (LeavesThreads old new own h) (AreAsBefore old new)
    (back h object old.monitors.monitors c.args.thread is.monitors is.number w c.if-not-wait.false free)
    (goes_on old new c.args.thread c.args.next own h is (resumed old.monitors.monitors w)
    (rewritten old c.go_on.new.stacks c.deref_mut.result.now c.args.thread (λ f. gone f c.args.next) c.go_on.ensures c.deref_mut.ensures.value) refl refl
    (sym (resumes old.monitors.monitors c.args.thread w c.resume.new.self.monitors c.requires c.resume.ensures.resumed)))
