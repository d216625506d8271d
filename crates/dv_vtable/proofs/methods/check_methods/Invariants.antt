use Rattle.std.proofs.Common.{◌≡◌, None, length}
use Rattle.dv_defs.specs.First.{first_below}
use Rattle.dv_defs.specs.Images.{Image}
use Rattle.dv_defs.specs.LinkFaults.{fault_at, wrong_methods}
use Rattle.dv_defs.specs.Linked.{defs}
use Rattle.dv_vtable.proofs.methods.check_methods.Given as goal

abbrev pub invariant-loop-place : goal.invariant-loop-place
invariant-loop-place l = record {
  count : l.finals.count ≡ length l.keys.keys.items;
  faultless : (image : Image) → image.classes ≡ l.infos → image.boot ≡ l.boot → first_below (fault_at (wrong_methods image) (defs l.infos)) l.place ≡ None;
}
