use Rattle.dv_worklist.specs.Work.{IsSpread}
use Rattle.dv_worklist.proofs.solve.turn.Given as goal

abbrev pub invariant-loop-index : goal.invariant-loop-index
invariant-loop-index g l =
    IsSpread (g.F.Flow.graph l.flow) (g.F.Flow.fits l.flow) (g.F.Flow.rank l.flow) (g.F.Flow.top l.flow) l.place l.initial.states.items l.initial.waiting l.index l.states.items l.waiting
