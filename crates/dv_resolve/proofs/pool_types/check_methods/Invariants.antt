use Rattle.std.proofs.Common.{◌≡◌, None, take}
use Rattle.dv_defs.specs.First.{first_in}
use Rattle.dv_defs.specs.Images.{Image}
use Rattle.dv_defs.specs.LinkFaults.{no_class_in_method}
use Rattle.dv_defs.specs.Numbering.{names_of}
use Rattle.dv_resolve.proofs.pool_types.check_methods.Given as goal

abbrev pub invariant-loop-method : goal.invariant-loop-method
invariant-loop-method l =
    (image : Image) → l.names ≡ names_of image.classes → first_in (no_class_in_method image) (take l.method-index l.methods) ≡ None
