use Rattle.std.proofs.Common.{◌<◌, ◌≤◌, ◌^◌, arith, lit<}
use Rattle.std.proofs.Math.Nat.{pow-le-pow_right}
use Rattle.dv_print.proofs.items.add_element.Goals as goal

pub signed_in-requires-clause-fits : goal.signed_in-requires-clause-fits
signed_in-requires-clause-fits c =
    let positive : 0 < 256 = lit< tt in
    let most = pow-le-pow_right positive c.requires.short in
    omega (arith, most, c.low_first.ensures.small, c.low_first.ensures.value)
