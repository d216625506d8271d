use Rattle.std.proofs.Common.{◌≡◌, take, map}
use Rattle.dv_defs.specs.Op.{named_registers}
use Rattle.dv_words.specs.Local.{reg_word}
use Rattle.dv_words.specs.Mem.{stored}
use Rattle.dv_mem.specs.Tops.{top_frame}
use Rattle.dv_mem.proofs.filled.fill.Given as goal

abbrev pub invariant-loop-k : goal.invariant-loop-k
invariant-loop-k l = l.heap ≡ stored l.fn.heap l.array 0 (take l.k (map (reg_word (top_frame l.stack)) (named_registers l.regs)))
