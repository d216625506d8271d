use Rattle.std.proofs.Common.{subst}
use Rattle.dv_defs.specs.Linked.{IsImage}
use Rattle.dv_machine.specs.Accepted.{Accepted}
use Rattle.dv_rules.specs.Verified.{VerifiedValue}
use Rattle.dv_sound.proofs.Premised.{verified_is_accepted}
use Rattle.dv_sound.proofs.premises.is_accepted.Goals as goal

pub returns : goal.returns
returns c =
    let is : IsImage c.verified.inside.image = subst IsImage c.image.view_is c.image.invariant.0 in
    let found = verified_is_accepted c.verified.inside.image c.verified.inside.maps is c.verified.invariant in
    (found.0, subst (λ (v : VerifiedValue). Accepted v.image found.0) c.verified.view_is found.1)
