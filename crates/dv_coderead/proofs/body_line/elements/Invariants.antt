use Rattle.dv_coderead.proofs.Elements.{IsSoFar}
use Rattle.dv_coderead.proofs.body_line.elements.Given as goal

abbrev pub invariant-loop-piece : goal.invariant-loop-piece
invariant-loop-piece l = IsSoFar l.width l.pieces l.piece-index l.elements.items
