use Rattle.std.proofs.Common.{◌∙◌}
use Rattle.dv_classread.proofs.Adding.{whole_end}
use Rattle.dv_classread.proofs.program.ClassesSoFar.into_classes.Goals as goal

pub returns-in-Ok : goal.returns-in-Ok
returns-in-Ok c = c.in-Ok.ensures ∙ whole_end c.args.self
