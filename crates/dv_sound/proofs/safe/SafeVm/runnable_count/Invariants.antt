use Rattle.std.proofs.Common.{◌≡◌, ◌≤◌, ◌+◌, length}
use Rattle.dv_defs.specs.Pools.{Method}
use Rattle.dv_machine.specs.Replaying.{runnable_from}
use Rattle.dv_machine.specs.State.{Machine}
use Rattle.dv_sound.specs.Runs.{IsAt}
use Rattle.dv_sound.proofs.Runnable.{from}
use Rattle.dv_sound.proofs.safe.SafeVm.runnable_count.Given as goal

abbrev pub invariant-loop-thread : goal.invariant-loop-thread
invariant-loop-thread l = record {
  few : l.count ≤ l.thread;
  counted : (main : Method) (m : Machine) → IsAt l.self main m → l.count + length (from l.self.verified.image m l.thread) ≡ length (runnable_from l.self.verified.image m m.threads 0);
}
