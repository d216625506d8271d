use Rattle.std.proofs.Common.{◌≡◌, None, take}
use Rattle.dv_defs.specs.First.{first_in}
use Rattle.dv_defs.specs.Images.{Image}
use Rattle.dv_defs.specs.LinkFaults.{no_class_in_field}
use Rattle.dv_defs.specs.Numbering.{names_of}
use Rattle.dv_resolve.proofs.pool_types.check_fields.Given as goal

abbrev pub invariant-loop-field : goal.invariant-loop-field
invariant-loop-field l =
    (image : Image) → l.names ≡ names_of image.classes → first_in (no_class_in_field image) (take l.field-index l.fields) ≡ None
