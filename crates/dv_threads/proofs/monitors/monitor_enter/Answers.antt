use Rattle.std.proofs.Common.{Ok, Option, is_none, subst}
use Rattle.dv_defs.specs.declared.run.Next.{Next}
use Rattle.dv_defs.specs.declared.run.Next.TheVariants as next
use Rattle.dv_machine.specs.Mem.{on_object}
use Rattle.dv_words.specs.Running.{blocked_enter}
use Rattle.dv_words.specs.Threads.{monitor_enter}
use Rattle.dv_threads.specs.Kept.{AreAsBefore, LeavesThreads}
use Rattle.dv_threads.specs.Owning.{TriesTo}
use Rattle.dv_threads.proofs.Leaving.{blocked, led}
use Rattle.dv_threads.proofs.Owning.{waits}
use Rattle.dv_threads.proofs.monitors.monitor_enter.Goals as goal

pub returns-in-None-clause-does : goal.returns-in-None-clause-does
returns-in-None-clause-does c own h is few =
    let old = c.args.threads.now in
    let new = c.try_monitor_enter.new.threads in
    let o = c.args.object in
    let free = is_none (blocked_enter h.shared.monitors h.thread o) in
    let P : Option Next → Type 0 = λ x. TriesTo (Ok x) free (on_object (monitor_enter h) o) (LeavesThreads old new own h) (AreAsBefore old new) in
    let held = subst P c.in-None.is (c.in_ok-answer.ensures.does own h is few) in
    led (Ok next.On) (on_object (monitor_enter h) o) _ (LeavesThreads old new own h) (AreAsBefore old new) (waits h o held.0)
    (blocked old new c.args.thread c.args.next own h is held.1)
