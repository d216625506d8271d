use Rattle.std.proofs.Common.{take}
use Rattle.dv_print.specs.Named.{HasSwitches}
use Rattle.dv_print.proofs.switches.switches_of.Given as goal

abbrev pub invariant-loop-piece : goal.invariant-loop-piece
invariant-loop-piece l = HasSwitches (take l.piece-index l.pieces) l.switches
