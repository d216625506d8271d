use Rattle.std.proofs.Common.{◌≡◌, drop}
use Rattle.dv_defs.specs.First.{first_in}
use Rattle.dv_defs.specs.Images.{Image}
use Rattle.dv_defs.specs.LookUp.{is_method_of}
use Rattle.dv_defs.specs.Order.{numbers}
use Rattle.dv_resolve.specs.Members.{Knows, declares}
use Rattle.dv_resolve.proofs.lookups.method_among.Given as goal

abbrev pub invariant-loop-i : goal.invariant-loop-i
invariant-loop-i l =
    (image : Image) → Knows l.members image
    → first_in (declares image (is_method_of l.name l.proto)) (numbers (drop l.i l.classes)) ≡ first_in (declares image (is_method_of l.name l.proto)) (numbers (drop l.from l.classes))
