use Rattle.dv_defs.specs.Pools.{Method}
use Rattle.dv_machine.specs.State.{Machine}
use Rattle.dv_sound.specs.Runs.{IsAt}
use Rattle.dv_sound.proofs.Ready.{NoneBelow}
use Rattle.dv_sound.proofs.safe.SafeVm.ready.Given as goal

abbrev pub invariant-loop-thread : goal.invariant-loop-thread
invariant-loop-thread l = (main : Method) (m : Machine) → IsAt l.self main m → NoneBelow l.self m l.thread
