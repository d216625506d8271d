use Rattle.std.proofs.Common.{◌≡◌, ◌<◌, Ok, ap, refl, sym, ◌∙◌, arith}
use Rattle.std.specs.Vec.{with_items}
use Rattle.dv_threads.specs.declared.threads.Threads.{Threads}
use Rattle.dv_defs.specs.declared.run.Next.TheVariants as next
use Rattle.dv_machine.specs.Monitors.{entered}
use Rattle.dv_machine.specs.Mem.{on_object}
use Rattle.dv_monitor.specs.declared.entry.Entry.TheVariants.{Entered, Full, Taken}
use Rattle.dv_monitor.specs.Entering.{entry_for}
use Rattle.dv_monitor.specs.State.{MonitorState}
use Rattle.dv_words.specs.Stacks.{gone}
use Rattle.dv_words.specs.Threads.{monitor_enter}
use Rattle.dv_threads.specs.Kept.{AreAsBefore, LeavesThreads}
use Rattle.dv_threads.proofs.Leaving.{goes_on, led, rewritten}
use Rattle.dv_threads.proofs.Owning.{entered_for, enters, free_entered, full_for, held_up, on_some, taken_apart}
use Rattle.dv_threads.proofs.monitors.try_monitor_enter.Goals as goal

pub returns-in-Entered-clause-does : goal.returns-in-Entered-clause-does
returns-in-Entered-clause-does c own h is few =
    let old = c.args.threads.now in
    let new : Threads = record { stacks = with_items old.stacks c.go_on.new.stacks; ends = old.ends; objects = old.objects; monitors = c.try_enter.new.self } in
    let o = c.args.object in
    let some : 0 < o = omega arith in
    let entry : Entered ≡ entry_for old.monitors.monitors o c.args.thread = sym c.in-Entered.is ∙ c.in_ok-try_enter.ensures.entry in (
      free_entered h o old.monitors.monitors c.args.thread is.monitors is.number some entry,
      led (Ok next.On) (on_object (monitor_enter h) o) _ (LeavesThreads old new own h) (AreAsBefore old new)
          (on_some (monitor_enter h) o some ∙ enters h o old.monitors.monitors c.args.thread is.monitors is.number (entered_for old.monitors.monitors o c.args.thread entry))
          (goes_on old new c.args.thread c.args.next own h is (entered old.monitors.monitors o c.args.thread 1)
          (rewritten old c.go_on.new.stacks c.deref_mut.result.now c.args.thread (λ f. gone f c.args.next) c.go_on.ensures c.deref_mut.ensures.value) refl refl
          (sym (c.in_ok-try_enter.ensures.entered c.in-Entered.is))),
    )

pub returns-in-Taken-clause-does : goal.returns-in-Taken-clause-does
returns-in-Taken-clause-does c own h is few =
    let old = c.args.threads.now in
    let some : 0 < c.args.object = omega arith in
    let entry : Taken ≡ entry_for old.monitors.monitors c.args.object c.args.thread = sym c.in-Taken.is ∙ c.in_ok-try_enter.ensures.entry in
    let same = c.in_ok-try_enter.ensures.unchanged (λ e. taken_apart (sym c.in-Taken.is ∙ e)) in (
      held_up h c.args.object old.monitors.monitors c.args.thread is.monitors is.number some entry,
      record { stacks = refl; ends = refl; objects = refl; monitors = ap (λ (s : MonitorState). s.monitors) same },
    )

pub returns-in-Full-clause-does : goal.returns-in-Full-clause-does
returns-in-Full-clause-does c own h is few =
    let old = c.args.threads.now in
    let entry : Full ≡ entry_for old.monitors.monitors c.args.object c.args.thread = sym c.in-Full.is ∙ c.in_ok-try_enter.ensures.entry in
    absurd (full_for old.monitors.monitors c.args.object c.args.thread entry few)
