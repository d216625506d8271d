use Rattle.std.proofs.Common.{sym}
use Rattle.dv_ops.proofs.Classes.{base_inside}
use Rattle.dv_fetch.proofs.pooled.class_named.Goals as goal

pub class_id-requires : goal.class_id-requires
class_id-requires c = base_inside c.args.image.now c.in_ok-ty.ty.now.base c.in_ok-class.class (sym c.in_ok-class.ensures)
