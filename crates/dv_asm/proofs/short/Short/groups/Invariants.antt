use Rattle.std.proofs.Common.{take}
use Rattle.dv_asm.specs.Ranges.{AreGroups}
use Rattle.dv_asm.proofs.short.Short.groups.Given as goal

abbrev pub invariant-loop-k : goal.invariant-loop-k
invariant-loop-k l = AreGroups l.self (take l.k l.catches) l.groups
