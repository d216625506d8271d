use Rattle.std.proofs.Common.{◌∙◌, sym}
use Rattle.dv_local.proofs.NoCode.{no_run_top}
use Rattle.dv_local.proofs.tops.steps_top.Goals as goal

pub returns-in_default-units_of : goal.returns-in_default-units_of
returns-in_default-units_of c = no_run_top c.args.image.now c.args.stack.now c.in-Some.head c.in_default-units_of.ensures.units c.args.most (sym c.head.ensures ∙ c.in-Some.is)
