use Rattle.std.proofs.Common.{◌≡◌, drop}
use Rattle.dv_defs.specs.First.{first_in}
use Rattle.dv_defs.specs.Images.{Image}
use Rattle.dv_defs.specs.LookUp.{field_declared}
use Rattle.dv_defs.specs.Order.{numbers}
use Rattle.dv_resolve.specs.Members.{Knows}
use Rattle.dv_resolve.proofs.lookups.field_among.Given as goal

abbrev pub invariant-loop-i : goal.invariant-loop-i
invariant-loop-i l =
    (image : Image) → Knows l.members image
    → first_in (field_declared image l.name l.ty) (numbers (drop l.i l.classes)) ≡ first_in (field_declared image l.name l.ty) (numbers (drop l.from l.classes))
