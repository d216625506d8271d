use Rattle.std.proofs.Common.{◌≡◌, ◌<◌, ◌^◌, length}
use Rattle.dv_coderead.specs.Pieces.{pieces_in}
use Rattle.dv_classread.specs.ClassLines.{flags_at}
use Rattle.dv_classread.proofs.class_line.flags_part.Given as goal

abbrev pub invariant-loop-rest : goal.invariant-loop-rest
invariant-loop-rest l = record {
  read : flags_at 0 (pieces_in l.pieces) ≡ flags_at l.flags (pieces_in l.rest);
  small : l.flags < 2 ^ 19;
}

abbrev pub decreases-loop-rest : goal.decreases-loop-rest
decreases-loop-rest l = length l.rest
