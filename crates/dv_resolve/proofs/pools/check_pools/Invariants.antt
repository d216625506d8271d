use Rattle.std.proofs.Common.{◌≡◌, None}
use Rattle.dv_defs.specs.First.{first_below}
use Rattle.dv_defs.specs.Images.{Image}
use Rattle.dv_defs.specs.LinkFaults.{fault_at, wrong_pools}
use Rattle.dv_defs.specs.Linked.{defs}
use Rattle.dv_resolve.specs.Members.{Knows}
use Rattle.dv_resolve.proofs.pools.check_pools.Given as goal

abbrev pub invariant-loop-i : goal.invariant-loop-i
invariant-loop-i l =
    (image : Image) → Knows l.members image → first_below (fault_at (wrong_pools image) (defs l.members.infos.now)) l.i ≡ None
