use Rattle.std.proofs.Common.{◌≤◌, ◌+◌, ◌-◌, length}
use Rattle.dv_top.specs.Pieces.{ReadSoFar}
use Rattle.dv_top.specs.Said.{text_limit}
use Rattle.dv_top.proofs.reading.read_all.Given as goal

abbrev pub invariant-read : goal.invariant-read
invariant-read g l =
    (length l.text.items ≤ text_limit + 1) × ReadSoFar (g.S.Source.left l.initial.source) (g.S.Source.left l.source) l.text.items × (g.S.Source.faults l.initial.source ≤ g.S.Source.faults l.source)

abbrev pub decreases-read : goal.decreases-read
decreases-read g l = text_limit + 1 - length l.text.items
