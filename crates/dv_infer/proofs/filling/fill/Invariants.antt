use Rattle.std.proofs.Common.{◌≡◌, length}
use Rattle.dv_ops.specs.Meaning.{code_of}
use Rattle.dv_plan.specs.Marks.{before_by}
use Rattle.dv_infer.specs.Filling.{FitsAll, AreFilledTo}
use Rattle.dv_infer.proofs.filling.fill.Given as goal

abbrev pub invariant-loop-at : goal.invariant-loop-at
invariant-loop-at l =
    record {
      count : length l.rows.items ≡ length l.initial.rows.items;
      fit : FitsAll l.bases (code_of l.code) l.rows.items;
      part : AreFilledTo l.bases (code_of l.code) (before_by l.plan.marks.items) l.at l.initial.rows.items l.rows.items;
    }
