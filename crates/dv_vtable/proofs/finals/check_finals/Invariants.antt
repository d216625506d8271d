use Rattle.std.proofs.Common.{◌≡◌, None, take}
use Rattle.dv_defs.specs.First.{first_in}
use Rattle.dv_defs.specs.Images.{Image}
use Rattle.dv_defs.specs.LinkFaults.{overrides_final}
use Rattle.dv_vtable.proofs.finals.check_finals.Given as goal

abbrev pub invariant-loop-i : goal.invariant-loop-i
invariant-loop-i l = (image : Image) → image.classes ≡ l.infos → first_in (overrides_final image l.place) (take l.i l.class.methods) ≡ None
