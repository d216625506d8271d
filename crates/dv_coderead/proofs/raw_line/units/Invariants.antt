use Rattle.dv_coderead.proofs.RawUnits.{IsSoFar}
use Rattle.dv_coderead.proofs.raw_line.units.Given as goal

abbrev pub invariant-loop-piece : goal.invariant-loop-piece
invariant-loop-piece l = IsSoFar l.pieces l.piece-index l.units.items
