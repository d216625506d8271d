use Rattle.std.proofs.Common.{◌≡◌, ◌++◌, map}
use Rattle.dv_asm.specs.Layout.{entry_of}
use Rattle.dv_asm.specs.Ranges.{ranges_in}
use Rattle.dv_asm.proofs.catches.Catches.tries.Given as goal

abbrev pub invariant-loop-start : goal.invariant-loop-start
invariant-loop-start l =
    l.tries.items ++ map (entry_of l.self.short.now l.self.catches.now l.types) (ranges_in l.start-iterator) ≡ map (entry_of l.self.short.now l.self.catches.now l.types) (ranges_in l.sorted.entries)
