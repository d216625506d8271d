use Rattle.dv_worklist.specs.Work.{IsBegun, work_left}
use Rattle.dv_worklist.proofs.solve.least.Given as goal

abbrev pub invariant-loop-place : goal.invariant-loop-place
invariant-loop-place g l = IsBegun (g.F.Flow.graph l.flow) (g.F.Flow.fits l.flow) l.states.items l.waiting

abbrev pub decreases-loop-place : goal.decreases-loop-place
decreases-loop-place g l = work_left (g.F.Flow.rank l.flow) (g.F.Flow.top l.flow) l.states.items l.waiting
