use Rattle.std.proofs.Common.{◌≡◌, take}
use Rattle.dv_defs.specs.Numbers.{elements}
use Rattle.dv_defs.specs.Tiling.{bytes_in}
use Rattle.dv_words.specs.Mem.{filled, stored}
use Rattle.dv_mem.proofs.filling.fill_elements.Given as goal

abbrev pub invariant-loop-k : goal.invariant-loop-k
invariant-loop-k l = l.heap ≡ stored l.fn.heap l.array 0 (filled l.ty (take l.k (elements l.data.count l.data.width (bytes_in l.data.units.now))))
