use Rattle.std.proofs.Common.{take}
use Rattle.dv_defs.specs.Order.{numbers}
use Rattle.dv_hier.specs.Ancestors.{HasMarked}
use Rattle.dv_hier.proofs.ancestors.mark_all.Given as goal

abbrev pub invariant-loop-id : goal.invariant-loop-id
invariant-loop-id l = HasMarked (numbers (take l.id-index l.classes)) l.initial.row l.row
