use Rattle.std.proofs.Common.{arith}
use Rattle.dv_monitor.proofs.WaitLaws.{notify_each-all}
use Rattle.dv_monitor.proofs.waits.notify_all.Goals as goal

pub returns : goal.returns
returns c = notify_each-all c.args.object c.args.waits.now c.loop-wait.waits (omega arith) (λ k d l. c.loop-wait.invariant.told k d (omega arith))
