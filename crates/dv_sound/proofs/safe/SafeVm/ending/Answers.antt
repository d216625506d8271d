use Rattle.std.proofs.Common.{◌≡◌, ◌∙◌, ap, refl, sym, subst}
use Rattle.dv_defs.specs.Images.{Image}
use Rattle.dv_rules.specs.Verified.{VerifiedValue}
use Rattle.dv_words.specs.Running as words
use Rattle.dv_core.specs.Machines.{machine_of}
use Rattle.dv_core.specs.Watching.{AreWatchable}
use Rattle.dv_defs.specs.Pools.{Method}
use Rattle.dv_machine.specs.Running.{ending_of}
use Rattle.dv_machine.specs.State.{Machine}
use Rattle.dv_sound.specs.Runs.{IsAt, Run}
use Rattle.dv_sound.proofs.Going.{alike, watchable}
use Rattle.dv_sound.proofs.Keeping.{machine_is}
use Rattle.dv_sound.proofs.safe.SafeVm.ending.Goals as goal

pub returns-clause-ending : goal.returns-clause-ending
returns-clause-ending c =
    let k = c.self.invariant in
    let image : c.verified.inside.image ≡ c.self.inside.verified.now.image = ap (λ (v : VerifiedValue). v.image) c.verified.view_is in
    let seen = watchable c.self.inside.verified.now.image k.typings c.self.inside.vm k.machine k.good k.stands in
    subst (λ (r : Run). (main : Method) (m : Machine) → IsAt r main m → c.ending.result ≡ ending_of r.verified.image m) c.self.view_is
    (λ main m at.
    c.ending.ensures (subst (λ (i : Image). AreWatchable i c.self.inside.vm) (sym image) seen) ∙ ap (λ (i : Image). words.ending_of i (machine_of c.self.inside.vm)) image ∙
    (alike c.self.inside.verified.now.image k.typings c.self.inside.vm k.machine k.good k.stands).ending ∙
    ap (ending_of c.self.inside.verified.now.image) (machine_is _ c.self.inside.vm k refl main m at))
