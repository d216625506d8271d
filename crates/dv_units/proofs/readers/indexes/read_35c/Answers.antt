use Rattle.std.proofs.Common.{rules, inl, inr}
use Rattle.dv_defs.proofs.Calls35c.{refuses_35c, reads_35c}
use Rattle.dv_units.proofs.readers.indexes.read_35c.Goals as goal
use Rattle.dv_units.proofs.readers.indexes.read_35c.Goals.{then-count-gt5-via-then-count-gt5, then-count-gt5-via-else-count-gt5+then-not-are_zero_from}

pub returns-then-count-gt5 : goal.returns-then-count-gt5
returns-then-count-gt5 c =
    elim c.then-count-gt5.branch [
      | then-count-gt5-via-then-count-gt5 w ↦ refuses_35c _ _ _ _ c.ranges.op.fits (inl (search rules))
      | then-count-gt5-via-else-count-gt5+then-not-are_zero_from w ↦ refuses_35c _ _ _ _ c.ranges.op.fits (inr (search rules))
    ]

pub returns : goal.returns
returns c = search (rules, reads_35c)
