use Rattle.std.proofs.Common.{◌≡◌, drop}
use Rattle.dv_defs.specs.Names.{object_name}
use Rattle.dv_defs.specs.Pools.{find_from}
use Rattle.dv_resolve.proofs.lookups.object_of.Given as goal

abbrev pub invariant-loop-i : goal.invariant-loop-i
invariant-loop-i l = find_from (drop l.i l.members.infos.now) l.i object_name ≡ find_from l.members.infos.now 0 object_name
