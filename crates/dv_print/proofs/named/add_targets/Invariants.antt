use Rattle.std.proofs.Common.{◌≡◌, ◌++◌, map, take}
use Rattle.dv_defs.specs.Numbers.{jump}
use Rattle.dv_print.proofs.named.add_targets.Given as goal

abbrev pub invariant-loop-target : goal.invariant-loop-target
invariant-loop-target l = l.named.items ≡ l.fn.named.items ++ map (jump l.base) (take l.target-index l.targets)
