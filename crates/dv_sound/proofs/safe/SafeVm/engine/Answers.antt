use Rattle.std.proofs.Common.{refl, subst}
use Rattle.dv_defs.specs.Pools.{Method}
use Rattle.dv_machine.specs.State.{Machine}
use Rattle.dv_machine.specs.WellTyped.{Typings}
use Rattle.dv_core.specs.Watching.{AreWatchable}
use Rattle.dv_sound.specs.Moves.{IsGood, StandsFor}
use Rattle.dv_sound.specs.Runs.{IsAt, Run}
use Rattle.dv_sound.proofs.Going.{watchable}
use Rattle.dv_sound.proofs.Keeping.{machine_is}
use Rattle.dv_sound.proofs.safe.SafeVm.engine.Goals as goal

pub returns-clause-watchable : goal.returns-clause-watchable
returns-clause-watchable c =
    let k = c.self.invariant in
    subst (λ (r : Run). AreWatchable r.verified.image c.self.inside.vm) c.self.view_is (watchable _ k.typings c.self.inside.vm k.machine k.good k.stands)

pub returns-clause-stands : goal.returns-clause-stands
returns-clause-stands c =
    let k = c.self.invariant in
    subst (λ (r : Run). (main : Method) (m : Machine) → IsAt r main m → (T : Typings) × IsGood r.verified.image T × StandsFor r.verified.image T c.self.inside.vm m) c.self.view_is
    (λ main m at. (k.typings, k.good, subst (λ (x : Machine). StandsFor c.self.inside.verified.now.image k.typings c.self.inside.vm x) (machine_is _ c.self.inside.vm k refl main m at) k.stands))
