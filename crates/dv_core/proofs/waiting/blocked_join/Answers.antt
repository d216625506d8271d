use Rattle.std.proofs.Common.{◌∙◌, Some, ap}
use Rattle.std.specs.Prelude.{◌==◌, position, slice_get}
use Rattle.dv_defs.specs.declared.machine.Blocked.TheVariants as blocked
use Rattle.dv_core.specs.Watching.{alive_in}
use Rattle.dv_core.proofs.Waits.{joins, no_join}
use Rattle.dv_core.proofs.waiting.blocked_join.Goals as goal

pub returns-in_err-place : goal.returns-in_err-place
returns-in_err-place c are =
    c.from_residual.ensures ∙ no_join c.args.guest.now are c.args.object (c.in_err-place.ensures ∙ ap (position (λ x. x == c.args.object)) c.deref.ensures.value)

pub returns-then-not-lives : goal.returns-then-not-lives
returns-then-not-lives c are =
    joins c.args.guest.now are c.args.object c.in_ok-place.place _ (c.in_ok-place.ensures ∙ ap (position (λ x. x == c.args.object)) c.deref.ensures.value)
    (c.if-not-lives.ensures ∙ ap (λ es. alive_in (slice_get es c.in_ok-place.place)) c.deref-2.ensures.value)

pub returns : goal.returns
returns c are =
    let narrow = c.in-Ok.ensures in
    ap (λ u. Some (blocked.Join u)) narrow.1 ∙
    joins c.args.guest.now are c.args.object c.in_ok-place.place _ (c.in_ok-place.ensures ∙ ap (position (λ x. x == c.args.object)) c.deref.ensures.value)
    (c.if-not-lives.ensures ∙ ap (λ es. alive_in (slice_get es c.in_ok-place.place)) c.deref-2.ensures.value)
