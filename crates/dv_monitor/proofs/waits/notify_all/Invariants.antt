use Rattle.std.proofs.Common.{◌≡◌, ℕ, ◌<◌, ◌≤◌, get_or}
use Rattle.dv_monitor.specs.declared.wait.Wait as kept
use Rattle.dv_monitor.proofs.WaitLaws.{told_of}
use Rattle.dv_monitor.proofs.waits.notify_all.Given as goal

abbrev pub invariant-loop-wait : goal.invariant-loop-wait
invariant-loop-wait l = record {
  told : (k : ℕ) (d : kept.Wait) → k < l.wait-index → get_or l.waits k d ≡ told_of l.object (get_or l.initial.waits k d);
  others : (k : ℕ) (d : kept.Wait) → l.wait-index ≤ k → get_or l.waits k d ≡ get_or l.initial.waits k d;
}
