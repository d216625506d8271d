use Rattle.std.proofs.Common.{◌∙◌, refl, sym}
use Rattle.dv_sound.proofs.Slices.{none_goes}
use Rattle.dv_sound.proofs.lending.first_slice.Goals as goal

pub returns-in_default : goal.returns-in_default
returns-in_default c T m good at = none_goes c.args.image.now T c.args.vm.now m c.args.thread good at (sym (c.in_ok-start.ensures at.ordered) ∙ c.in_default.is)

pub returns-in-Ok : goal.returns-in-Ok
returns-in-Ok c T m good at = (
  sym (c.may_lend.ensures T m good at) ∙ c.if-not-may_lend.false,
  record { thread_is = refl; none = refl; ends = c.in-Ok.ensures.cases },
  sym (c.in_ok-start.ensures at.ordered) ∙ c.in-Some.is,
)
