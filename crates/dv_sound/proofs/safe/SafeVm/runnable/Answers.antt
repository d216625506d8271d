use Rattle.std.proofs.Common.{◌≡◌, refl, sym, ap, ◌∙◌, subst}
use Rattle.dv_defs.specs.Pools.{Method}
use Rattle.dv_machine.specs.Running.{runnable}
use Rattle.dv_machine.specs.State.{Machine}
use Rattle.dv_rules.specs.Verified.{VerifiedValue}
use Rattle.dv_words.specs.Running as words
use Rattle.dv_core.specs.Machines.{machine_of}
use Rattle.dv_core.specs.Watching.{AreWatchable}
use Rattle.dv_sound.specs.Runs.{IsAt, Run}
use Rattle.dv_sound.proofs.Going.{watchable}
use Rattle.dv_sound.proofs.Places.{runnable_is}
use Rattle.dv_sound.proofs.safe.SafeVm.runnable.Goals as goal

pub returns : goal.returns
returns c =
    let s = c.self.inside in
    let k = c.self.invariant in
    let r : Run = record { verified = s.verified.now; main = s.main; machine = machine_of s.vm; log = s.log.items; lent = s.lent.items } in
    let watched : AreWatchable c.verified.inside.image s.vm =
    subst (λ (v : VerifiedValue). AreWatchable v.image s.vm) (sym c.verified.view_is) (watchable s.verified.now.image k.typings s.vm k.machine k.good k.stands) in
    let told : c.runnable.result ≡ words.runnable s.verified.now.image (machine_of s.vm) c.args.thread =
    c.runnable.ensures watched ∙ ap (λ (v : VerifiedValue). words.runnable v.image (machine_of s.vm) c.args.thread) c.verified.view_is in
    subst (λ (x : Run). (main : Method) (m : Machine) → IsAt x main m → c.runnable.result ≡ runnable x.verified.image m c.args.thread) c.self.view_is (λ main m at. told ∙ runnable_is r s.vm main m c.args.thread k refl at)
