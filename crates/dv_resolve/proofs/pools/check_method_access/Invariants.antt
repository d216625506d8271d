use Rattle.std.proofs.Common.{◌≡◌, None, take}
use Rattle.dv_defs.specs.First.{first_in}
use Rattle.dv_defs.specs.Images.{Image}
use Rattle.dv_defs.specs.LinkFaults.{private_method}
use Rattle.dv_resolve.specs.Members.{Knows}
use Rattle.dv_resolve.proofs.pools.check_method_access.Given as goal

abbrev pub invariant-loop-method : goal.invariant-loop-method
invariant-loop-method l =
    (image : Image) → Knows l.members image → first_in (private_method image l.place) (take l.method-index l.methods) ≡ None
