use Rattle.std.proofs.Common.{◌≡◌, map, take}
use Rattle.dv_hier.specs.Interfaces.{unlisted}
use Rattle.dv_hier.proofs.interfaces.unlisted.Given as goal

abbrev pub invariant-loop : goal.invariant-loop
invariant-loop l = l.lists.items ≡ map unlisted (take l.index l.infos)
