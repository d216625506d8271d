use Rattle.std.proofs.Common.{◌≡◌, map, take}
use Rattle.std.specs.Prelude.{filter_map}
use Rattle.dv_defs.specs.Images.{Image}
use Rattle.dv_defs.specs.LookUp.{field_named}
use Rattle.dv_resolve.specs.Ids.{field_id}
use Rattle.dv_resolve.specs.Members.{Knows}
use Rattle.dv_resolve.proofs.resolving.field_ids.Given as goal

abbrev pub invariant-loop-field : goal.invariant-loop-field
invariant-loop-field l =
    (image : Image) → Knows l.members image → l.ids.items ≡ map field_id (filter_map (field_named image) (take l.field-index l.fields))
