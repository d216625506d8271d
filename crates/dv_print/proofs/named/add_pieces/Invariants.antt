use Rattle.std.proofs.Common.{◌≡◌, ◌++◌, take}
use Rattle.std.specs.List.{flat_map}
use Rattle.dv_print.specs.Named.{named_by_piece}
use Rattle.dv_print.proofs.named.add_pieces.Given as goal

abbrev pub invariant-loop-piece : goal.invariant-loop-piece
invariant-loop-piece l = l.named.items ≡ l.fn.named.items ++ flat_map (named_by_piece l.pieces) (take l.piece-index l.pieces)
