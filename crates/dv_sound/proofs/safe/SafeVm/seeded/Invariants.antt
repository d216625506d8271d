use Rattle.std.proofs.Common.{◌≡◌, ◌-◌, []}
use Rattle.dv_defs.specs.Pools.{Method}
use Rattle.dv_machine.specs.State.{Machine}
use Rattle.dv_sound.specs.Runs.{IsAt, IsSameRun}
use Rattle.dv_sound.proofs.Seeding.{IsSeeding}
use Rattle.dv_sound.proofs.safe.SafeVm.seeded.Given as goal

abbrev pub invariant-loop-words : goal.invariant-loop-words
invariant-loop-words l = record {
  same : IsSameRun l.fn.self l.self;
  seeding : (main : Method) (m : Machine) → IsAt l.fn.self main m → l.fn.self.log ≡ [] → IsSeeding l.self l.words main l.fn.seed;
}

abbrev pub decreases-loop-words : goal.decreases-loop-words
decreases-loop-words l = l.self.machine.limits.budget - l.self.machine.steps
