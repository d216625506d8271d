use Rattle.std.proofs.Common.{arith}
use Rattle.dv_worklist.proofs.Arriving.{fit_after}
use Rattle.dv_worklist.proofs.solve.arrive.Goals as goal

pub raise-requires-in-Some-clause-all : goal.raise-requires-in-Some-clause-all
raise-requires-in-Some-clause-all g c =
    fit_after _ _ _ _ c.requires.lawful c.args.states.now.items c.args.place c.args.state.now c.raise-2.new.states.items
    (omega (arith, c.requires.place, c.requires.long)) c.requires.fits c.requires.all c.in_ok-raise-2.ensures.states
