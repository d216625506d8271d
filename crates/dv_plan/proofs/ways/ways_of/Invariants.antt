use Rattle.dv_ops.specs.Meaning.{code_of}
use Rattle.dv_plan.specs.Ways.{AreWays}
use Rattle.dv_plan.proofs.ways.ways_of.Given as goal

abbrev pub invariant-loop-at : goal.invariant-loop-at
invariant-loop-at l = AreWays l.image (code_of l.code) l.at l.ways.items
