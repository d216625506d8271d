use Rattle.dv_image.proofs.Selections.{numbered}
use Rattle.dv_image.proofs.selecting.select.Goals as goal

pub returns-in-Some : goal.returns-in-Some
returns-in-Some c =
    numbered c.args.image.now c.args.class.0 c.args.method.0 c.in-Some.number c.select_numbered.result c.in-Some.ensures c.select_numbered.ensures
