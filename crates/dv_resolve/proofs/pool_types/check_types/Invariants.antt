use Rattle.std.proofs.Common.{◌≡◌, None, take}
use Rattle.dv_defs.specs.First.{first_in}
use Rattle.dv_defs.specs.Images.{Image}
use Rattle.dv_defs.specs.LinkFaults.{no_type}
use Rattle.dv_defs.specs.Numbering.{names_of}
use Rattle.dv_resolve.proofs.pool_types.check_types.Given as goal

abbrev pub invariant-loop-ty : goal.invariant-loop-ty
invariant-loop-ty l =
    (image : Image) → l.names ≡ names_of image.classes → first_in (no_type image) (take l.ty-index l.types) ≡ None
