use Rattle.std.proofs.Common.{subst}
use Rattle.dv_rules.specs.Verified.{VerifiedValue}
use Rattle.law_words.specs.StepLaws.{AllKeysRise}
use Rattle.law_engine.proofs.Keys.{accepted_keys_rise}
use Rattle.dv_sound.proofs.Premised.{accepts}
use Rattle.dv_sound.proofs.premises.keys_rise.Goals as goal

pub returns : goal.returns
returns c =
    let all = accepted_keys_rise c.verified.inside.image (accepts c.verified.inside.image c.verified.inside.maps c.verified.invariant) in
    subst (λ (v : VerifiedValue). AllKeysRise v.image) c.verified.view_is all
