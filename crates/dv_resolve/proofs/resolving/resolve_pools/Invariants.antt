use Rattle.std.proofs.Common.{◌≡◌, map}
use Rattle.dv_defs.specs.Images.{Image}
use Rattle.dv_defs.specs.Linked.{method_with_pools}
use Rattle.dv_resolve.specs.Members.{Knows}
use Rattle.dv_resolve.proofs.resolving.resolve_pools.Given as goal

abbrev pub invariant-loop-method : goal.invariant-loop-method
invariant-loop-method l =
    (image : Image) → Knows l.members image → l.done.items ≡ map (method_with_pools image) l.yielded
