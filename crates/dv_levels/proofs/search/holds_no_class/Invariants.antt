use Rattle.std.specs.Prelude.{All}
use Rattle.dv_ops.specs.Meaning.{code_of}
use Rattle.dv_levels.specs.Takes.{IsLevel}
use Rattle.dv_levels.proofs.search.holds_no_class.Given as goal

abbrev pub invariant-loop-left : goal.invariant-loop-left
invariant-loop-left l = All (IsLevel l.bases.image (code_of l.code) l.place l.register) l.open.items

abbrev pub decreases-loop-left : goal.decreases-loop-left
decreases-loop-left l = l.left
