use Rattle.std.proofs.Common.{◌≡◌, ℕ, Ok, Some, None, refl, sym, ◌∙◌}
use Rattle.dv_threads.specs.declared.threads.Threads.{Threads}
use Rattle.dv_defs.specs.declared.run.Next.TheVariants as next
use Rattle.dv_machine.specs.Monitors.{owner_of, waiting}
use Rattle.dv_machine.specs.State.{Did}
use Rattle.dv_monitor.specs.State.{count_of}
use Rattle.dv_words.specs.Steps.{Left, onward, with_monitors}
use Rattle.dv_words.specs.Threads.{wait_step}
use Rattle.dv_threads.specs.Kept.{AreAsBefore, LeavesThreads}
use Rattle.dv_threads.proofs.Leaving.{led, stayed}
use Rattle.dv_threads.proofs.Owning.{owned}
use Rattle.dv_threads.proofs.waiting.begin_wait.Goals as goal

pub returns-in-Ok : goal.returns-in-Ok
returns-in-Ok c after own h is =
    let old = c.args.threads.now in
    let new : Threads = record { stacks = old.stacks; ends = old.ends; objects = old.objects; monitors = c.wait.new.self } in
    let m = old.monitors.monitors in
    let o = c.args.object in
    let go : ℕ → Did Left = λ n. onward h (with_monitors h.shared (waiting h.shared.monitors o h.thread n)) h.frame in
    let mine : owner_of m o ≡ Some c.args.thread = c.in-Ok.ensures.owner in
    led (Ok next.On) (wait_step h o None) _ (LeavesThreads old new own h) (AreAsBefore old new)
    (owned h o m c.args.thread is.monitors is.number go mine)
    (stayed old new c.args.thread after own h is (waiting h.shared.monitors o h.thread (count_of m o)) refl refl refl
    ((λ j. waiting (is.monitors j) o (is.number j) (count_of m o)) ∙ sym c.in-Ok.ensures.ok))
