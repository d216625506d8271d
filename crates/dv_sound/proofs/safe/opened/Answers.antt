use Rattle.std.proofs.Common.{◌≡◌, ap, subst, sym}
use Rattle.std.specs.Prelude.{IfOk}
use Rattle.dv_defs.specs.Images.{Image}
use Rattle.dv_machine.specs.Accepted.{Accepted}
use Rattle.dv_rules.specs.Verified.{VerifiedValue}
use Rattle.law_words.specs.StepLaws.{AllKeysRise}
use Rattle.dv_machine.specs.Mains.{HasMain}
use Rattle.dv_sound.specs.Runs.{IsOpened}
use Rattle.dv_sound.proofs.Opened.{opened_if_ok}
use Rattle.dv_sound.proofs.safe.opened.Goals as goal

pub returns : goal.returns
returns c = λ has usable.
    let same : c.verified.inside.image ≡ c.args.verified.now.image = ap (λ (v : VerifiedValue). v.image) c.verified.view_is in
    let (T, accepted) = c.is_accepted.ensures in
    subst (λ (image : Image). IfOk c.open.result (λ v. IsOpened image c.args.main c.args.limits v)) same
    (opened_if_ok c.verified.inside.image T c.args.main c.args.limits
    (subst (λ (image : Image). Accepted image T) (sym same) accepted) c.strings_fit.ensures (subst AllKeysRise (sym same) c.keys_rise.ensures) c.in_ok-inits_fit.ensures
    c.are_numbers.ensures.threads c.are_numbers.ensures.budget
    (subst (λ (image : Image). HasMain image c.args.main.0) (sym same) has) usable
    c.open.result c.open.ensures.opened c.open.ensures.ordered)
