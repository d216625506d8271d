use Rattle.std.proofs.Common.{ap}
use Rattle.dv_load.specs.Images.{by_linking}
use Rattle.dv_load.proofs.MainMethods.{has_main}
use Rattle.dv_load.proofs.mains.main_method.Goals as goal

pub returns-clause-main : goal.returns-clause-main
returns-clause-main c = has_main c.args.image.now c.args.class.now c.in_ok-find_main.field-0 (ap by_linking c.in_ok-find_main.ensures)
