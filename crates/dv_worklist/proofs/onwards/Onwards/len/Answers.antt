use Rattle.std.proofs.Common.{length, ap, arith}
use Rattle.dv_worklist.proofs.Numbered.{count}
use Rattle.dv_worklist.proofs.onwards.Onwards.len.Goals as goal

pub returns : goal.returns
returns g c =
    let inside = c.self.inside in
    omega (arith, c.len.ensures, ap length c.self.view_is, count inside.states.items inside.ways.items c.self.invariant, inside.ways.ok.0)
