use Rattle.std.proofs.Common.{◌≡◌, ◌-◌, []}
use Rattle.dv_defs.specs.Pools.{Method}
use Rattle.dv_machine.specs.State.{Machine}
use Rattle.dv_sound.specs.Moves.{FramesStay}
use Rattle.dv_sound.specs.Runs.{IsAt, IsSameRun, RanLowest}
use Rattle.dv_sound.proofs.safe.SafeVm.run.Given as goal

abbrev pub invariant-loop-self : goal.invariant-loop-self
invariant-loop-self l = record {
  same : IsSameRun l.fn.self l.self;
  ran : (main : Method) (m : Machine) → IsAt l.fn.self main m → l.fn.self.lent ≡ [] → RanLowest l.fn.self l.self main m;
  stay : FramesStay l.fn.self.machine l.self.machine l.fn.self.lent;
}

abbrev pub decreases-loop-self : goal.decreases-loop-self
decreases-loop-self l = l.self.machine.limits.budget - l.self.machine.steps
