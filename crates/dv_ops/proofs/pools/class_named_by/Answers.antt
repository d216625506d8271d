use Rattle.std.proofs.Common.{sym}
use Rattle.dv_ops.proofs.Classes.{base_inside}
use Rattle.dv_ops.proofs.pools.class_named_by.Goals as goal

pub class_id-requires : goal.class_id-requires
class_id-requires c = base_inside c.args.image.now c.args.ty.now.base c.in-Some.class (sym c.in-Some.ensures)
