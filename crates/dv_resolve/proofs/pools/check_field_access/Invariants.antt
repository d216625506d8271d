use Rattle.std.proofs.Common.{◌≡◌, None, take}
use Rattle.dv_defs.specs.First.{first_in}
use Rattle.dv_defs.specs.Images.{Image}
use Rattle.dv_defs.specs.LinkFaults.{private_field}
use Rattle.dv_resolve.specs.Members.{Knows}
use Rattle.dv_resolve.proofs.pools.check_field_access.Given as goal

abbrev pub invariant-loop-field : goal.invariant-loop-field
invariant-loop-field l =
    (image : Image) → Knows l.members image → first_in (private_field image l.place) (take l.field-index l.fields) ≡ None
