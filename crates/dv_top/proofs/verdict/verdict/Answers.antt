use Rattle.std.proofs.Common.{◌≡◌, ap, refl, ◌∙◌}
use Rattle.std.proofs.lemmas.Result.{IfOk-weaker}
use Rattle.dv_rules.specs.Verified.{VerifiedValue}
use Rattle.dv_top.specs.Status.{code_of}
use Rattle.dv_top.proofs.VerifyingLemmas.{said_accepted, said_faulty}
use Rattle.dv_top.proofs.verdict.verdict.Goals as goal

pub returns-in-Ok-clause-said : goal.returns-in-Ok-clause-said
returns-in-Ok-clause-said g c bytes few gives =
    let same : c.verified.inside.image ≡ c.args.image = ap (λ (v : VerifiedValue). v.image) c.verified.view_is ∙ c.in-Ok.ensures.same in
    IfOk-weaker c.accepted-reply.result _ _ (λ reply h. said_accepted bytes c.args.image c.verified.inside.image _ _ _ few gives c.in-Ok.ensures.accepted same refl (ap code_of h.0) h.1) c.accepted-reply.ensures

pub returns-in-Err-clause-said : goal.returns-in-Err-clause-said
returns-in-Err-clause-said g c bytes few gives =
    IfOk-weaker c.faulty.result _ _ (λ reply told. said_faulty VerifiedValue bytes c.args.image c.in-Err.error reply.status reply.text.items few gives c.in-Err.ensures.image c.in-Err.ensures.faults c.in-Err.ensures.refused told) c.faulty.ensures
