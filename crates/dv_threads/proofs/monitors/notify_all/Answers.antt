use Rattle.std.proofs.Common.{◌≡◌, ℕ, Ok, Some, refl, sym, ap, ◌∙◌}
use Rattle.std.specs.Vec.{with_items}
use Rattle.dv_threads.specs.declared.threads.Threads.{Threads}
use Rattle.dv_defs.specs.declared.run.Next.TheVariants as next
use Rattle.dv_machine.specs.Monitors.{notified_all, owner_of}
use Rattle.dv_machine.specs.State.{Did}
use Rattle.dv_words.specs.Stacks.{gone}
use Rattle.dv_words.specs.Steps.{Left, goes, with_monitors}
use Rattle.dv_words.specs.Threads.{notify_all_on}
use Rattle.dv_threads.specs.Kept.{AreAsBefore, LeavesThreads}
use Rattle.dv_threads.proofs.Leaving.{goes_on, led, rewritten}
use Rattle.dv_threads.proofs.Owning.{owned}
use Rattle.dv_threads.proofs.monitors.notify_all.Goals as goal

pub returns : goal.returns
returns c own h is =
    let old = c.args.threads.now in
    let new : Threads = record { stacks = with_items old.stacks c.go_on.new.stacks; ends = old.ends; objects = old.objects; monitors = c.notify_all.new.self } in
    let o = c.args.object in
    let go : ℕ → Did Left = λ n. goes h (with_monitors h.shared (notified_all h.shared.monitors o)) in
    let mine : owner_of old.monitors.monitors o ≡ Some c.args.thread = c.in-Ok.ensures.owner.0 refl in
    let did = owned h o old.monitors.monitors c.args.thread is.monitors is.number go mine in
    led (Ok next.On) (notify_all_on h o) _ (LeavesThreads old new own h) (AreAsBefore old new) did
    (goes_on old new c.args.thread c.args.next own h is (notified_all h.shared.monitors o)
    (rewritten old c.go_on.new.stacks c.deref_mut.result.now c.args.thread (λ f. gone f c.args.next) c.go_on.ensures c.deref_mut.ensures.value) refl refl
    (ap (λ m. notified_all m o) is.monitors ∙ sym c.in-Ok.ensures.ok))
