use Rattle.std.proofs.Common.{◌<◌, ◌^◌, arith, rules, subst}
use Rattle.dv_defs.specs.Linked.{IsImage}
use Rattle.dv_ops.proofs.Classes.{few}
use Rattle.dv_fetch.proofs.pooled.class_id.Goals as goal

pub overflow_cast-result : goal.overflow_cast-result
overflow_cast-result c =
    let is : IsImage c.args.image.now = subst IsImage c.image.view_is c.image.invariant.0 in
    let below : c.args.place < 2 ^ 32 = omega (arith, few c.args.image.now is, c.requires) in
    search rules
