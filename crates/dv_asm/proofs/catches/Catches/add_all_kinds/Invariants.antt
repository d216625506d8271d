use Rattle.std.proofs.Common.{◌≡◌}
use Rattle.dv_asm.specs.Layout.{with_kinds}
use Rattle.dv_asm.specs.Ranges.{ranges_in}
use Rattle.dv_asm.proofs.catches.Catches.add_all_kinds.Given as goal

abbrev pub invariant-loop-start : goal.invariant-loop-start
invariant-loop-start l =
    with_kinds l.self.short.now l.self.catches.now l.types (ranges_in l.start-iterator) ≡ with_kinds l.self.short.now l.self.catches.now l.fn.types (ranges_in l.sorted.entries)
