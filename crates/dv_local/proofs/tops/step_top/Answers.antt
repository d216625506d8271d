use Rattle.std.proofs.Common.{◌∙◌, sym}
use Rattle.dv_local.proofs.NoCode.{no_step_top}
use Rattle.dv_local.proofs.tops.step_top.Goals as goal

pub returns-in_default-units_of : goal.returns-in_default-units_of
returns-in_default-units_of c = no_step_top c.args.image.now c.args.stack.now c.in-Some.head c.in_default-units_of.ensures.units (sym c.head.ensures ∙ c.in-Some.is)
