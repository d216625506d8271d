use Rattle.std.proofs.Common.{◌∙◌, ap, sym, subst}
use Rattle.dv_defs.specs.Images.{Image}
use Rattle.dv_rules.specs.Verified.{VerifiedValue}
use Rattle.dv_core.specs.Machines.{machine_of}
use Rattle.dv_core.specs.Watching.{AreWatchable}
use Rattle.law_engine.specs.KeepLaws.{next_is_local_of}
use Rattle.law_engine.proofs.Staying.{next_is_alike}
use Rattle.dv_sound.proofs.safe.SafeVm.next_is_local.Goals as goal

pub returns : goal.returns
returns c main m at =
    let image = ap (λ (v : VerifiedValue). v.image) (c.verified.view_is ∙ c.verified-verified.ensures) in
    let s = c.engine.ensures.stands main m at in
    c.next_is_local.ensures (subst (λ (i : Image). AreWatchable i c.engine.result.now) (sym image) c.engine.ensures.watchable) ∙ ap (λ (i : Image). next_is_local_of i (machine_of c.engine.result.now) c.args.thread) image ∙
    next_is_alike c.args.self.now.verified.image s.0 (machine_of c.engine.result.now) m c.args.thread s.2.simulated
