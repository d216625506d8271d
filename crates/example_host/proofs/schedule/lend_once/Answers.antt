use Rattle.std.proofs.Common.{◌≡◌, ap, sym, ◌∙◌}
use Rattle.dv_rules.specs.Verified.{VerifiedValue}
use Rattle.dv_sound.specs.Runs.{Run}
use Rattle.dv_sound.proofs.Made.{made_first, made_on}
use Rattle.example_host.proofs.schedule.lend_once.Goals as goal

pub commit-requires : goal.commit-requires
commit-requires c =
    let image = c.verified.inside.image in
    let lent = rw c.in-Some.is at c.in_ok-slice.ensures.lent in
    let first = made_first image c.args.thread c.in-Some.slice lent.first in
    let made = made_on image _ c.run_slice-done.result c.in-Some.slice c.run_slice-done.new.slice first c.run_slice-done.ensures.ran c.run_slice-done.ensures.counted c.run_slice-done.ensures.start in
    let same : image ≡ c.lend.new.self.verified.image =
    ap (λ (v : VerifiedValue). v.image) (c.verified.view_is ∙ c.verified-verified.ensures) ∙ sym (ap (λ (r : Run). r.verified.image) lent.now) in
    record { made = rw same at made }
