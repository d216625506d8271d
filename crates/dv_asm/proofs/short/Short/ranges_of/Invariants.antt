use Rattle.std.proofs.Common.{◌≡◌, map, take}
use Rattle.dv_asm.specs.Refusals.{range_of}
use Rattle.dv_asm.proofs.short.Short.ranges_of.Given as goal

abbrev pub invariant-loop-catch : goal.invariant-loop-catch
invariant-loop-catch l = l.ranges.items ≡ map (range_of l.self) (take l.catch-index l.catches)
