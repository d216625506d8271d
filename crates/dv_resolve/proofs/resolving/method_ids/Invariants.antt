use Rattle.std.proofs.Common.{◌≡◌, map, take}
use Rattle.std.specs.Prelude.{filter_map}
use Rattle.dv_defs.specs.Images.{Image}
use Rattle.dv_defs.specs.LookUp.{method_named}
use Rattle.dv_resolve.specs.Ids.{method_id}
use Rattle.dv_resolve.specs.Members.{Knows}
use Rattle.dv_resolve.proofs.resolving.method_ids.Given as goal

abbrev pub invariant-loop-method : goal.invariant-loop-method
invariant-loop-method l =
    (image : Image) → Knows l.members image → l.ids.items ≡ map method_id (filter_map (method_named image) (take l.method-index l.methods))
