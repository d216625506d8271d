use Rattle.std.proofs.Common.{subst}
use Rattle.dv_defs.specs.Linked.{IsImage}
use Rattle.dv_rules.specs.Verified.{VerifiedValue}
use Rattle.dv_top.proofs.ended.is_linked.Goals as goal

pub returns : goal.returns
returns c =
    let is : IsImage c.verified.inside.image = subst IsImage c.image.view_is c.image.invariant.0 in
    subst (λ (v : VerifiedValue). IsImage v.image) c.verified.view_is is
