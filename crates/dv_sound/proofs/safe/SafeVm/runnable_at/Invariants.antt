use Rattle.std.proofs.Common.{◌≡◌}
use Rattle.std.specs.Prelude.{slice_index_or}
use Rattle.dv_defs.specs.Pools.{Method}
use Rattle.dv_machine.specs.Replaying.{runnable_from}
use Rattle.dv_machine.specs.State.{Machine}
use Rattle.dv_sound.specs.Runs.{IsAt}
use Rattle.dv_sound.proofs.Runnable.{from}
use Rattle.dv_sound.proofs.safe.SafeVm.runnable_at.Given as goal

abbrev pub invariant-loop-thread : goal.invariant-loop-thread
invariant-loop-thread l =
    (main : Method) (m : Machine) → IsAt l.self main m → slice_index_or (from l.self.verified.image m l.thread) l.before 0 ≡ slice_index_or (runnable_from l.self.verified.image m m.threads 0) l.place 0
