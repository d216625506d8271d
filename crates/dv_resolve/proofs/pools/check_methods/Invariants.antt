use Rattle.std.proofs.Common.{◌≡◌, None, take}
use Rattle.dv_defs.specs.First.{first_in}
use Rattle.dv_defs.specs.Images.{Image}
use Rattle.dv_defs.specs.LinkFaults.{no_method}
use Rattle.dv_resolve.specs.Members.{Knows}
use Rattle.dv_resolve.proofs.pools.check_methods.Given as goal

abbrev pub invariant-loop-method : goal.invariant-loop-method
invariant-loop-method l =
    (image : Image) → Knows l.members image → first_in (no_method image) (take l.method-index l.methods) ≡ None
