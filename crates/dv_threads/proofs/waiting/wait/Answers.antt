use Rattle.std.proofs.Common.{Ok, Some, None}
use Rattle.dv_monitor.specs.Waits.{wait_value}
use Rattle.dv_words.specs.Threads.{wait_on, wait_step}
use Rattle.dv_threads.specs.Kept.{AreAsBefore, LeavesThreads}
use Rattle.dv_threads.proofs.Leaving.{led}
use Rattle.dv_threads.proofs.Owning.{wait_is}
use Rattle.dv_threads.proofs.waiting.wait.Goals as goal

pub returns-in-None : goal.returns-in-None
returns-in-None c own h is =
    let old = c.args.threads.now in
    led c.begin_wait.result (wait_on h c.args.object) (wait_step h c.args.object None) (LeavesThreads old c.begin_wait.new.threads own h) (AreAsBefore old c.begin_wait.new.threads)
    (wait_is h c.args.object old.monitors.monitors c.args.thread is.monitors is.number None c.in-None.ensures)
    (c.begin_wait.ensures c.args.next own h is)

pub returns-in-Some : goal.returns-in-Some
returns-in-Some c own h is =
    let old = c.args.threads.now in
    let w = wait_value c.in-Some.wait in
    led (Ok c.take_back.result) (wait_on h c.args.object) (wait_step h c.args.object (Some w)) (LeavesThreads old c.take_back.new.threads own h) (AreAsBefore old c.take_back.new.threads)
    (wait_is h c.args.object old.monitors.monitors c.args.thread is.monitors is.number (Some w) c.in-Some.ensures)
    (c.take_back.ensures own h c.args.object is)
