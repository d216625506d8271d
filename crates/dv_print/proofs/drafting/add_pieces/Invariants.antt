use Rattle.std.proofs.Common.{◌≡◌, ◌++◌, take}
use Rattle.std.specs.List.{flat_map}
use Rattle.dv_print.specs.Drafting.{items_at}
use Rattle.dv_print.proofs.drafting.add_pieces.Given as goal

abbrev pub invariant-loop-piece : goal.invariant-loop-piece
invariant-loop-piece l = l.items.items ≡ l.fn.items.items ++ flat_map (items_at l.body l.pieces l.named) (take l.piece-index l.pieces)
