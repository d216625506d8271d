use Rattle.dv_local.proofs.NoCode.{no_step}
use Rattle.dv_local.proofs.frames.local_step.Goals as goal

pub returns-in_default : goal.returns-in_default
returns-in_default c = no_step c.args.image.now c.args.frame.now c.in_default.ensures.units
