use Rattle.std.proofs.Common.{length}
use Rattle.dv_defs.specs.Images.{Image}
use Rattle.dv_defs.specs.Op.{Code}
use Rattle.law_flow.specs.Clean.{IsClean}
use Rattle.dv_plan.specs.Marks.{AreMarks}
use Rattle.dv_plan.specs.Ways.{AreWays}
use Rattle.dv_plan.proofs.marks.mark_all.Given as goal

abbrev pub invariant-loop-at : goal.invariant-loop-at
invariant-loop-at l = (image : Image) (code : Code) → IsClean image code → AreWays image code (length l.ways) l.ways → AreMarks image code l.at l.marks.items
