use Rattle.std.proofs.Common.{◌≤◌, length, ap, arith}
use Rattle.dv_resolve.proofs.MainLaws.{few_in_image}
use Rattle.dv_resolve.proofs.main_method.methods_of.Goals as goal

pub returns-clause-few : goal.returns-clause-few
returns-clause-few c =
    let few : length c.image.inside.methods ≤ 19618 = few_in_image _ c.image.invariant.0 in
    omega (arith, few, ap length c.items.ensures)
