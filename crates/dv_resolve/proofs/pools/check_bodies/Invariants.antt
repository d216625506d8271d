use Rattle.std.proofs.Common.{◌≡◌, None, take}
use Rattle.std.specs.Prelude.{option_and_then}
use Rattle.dv_defs.specs.First.{first_in}
use Rattle.dv_defs.specs.Images.{Image}
use Rattle.dv_resolve.specs.Members.{Knows}
use Rattle.dv_resolve.specs.Passes.{fault_by}
use Rattle.dv_resolve.proofs.pools.check_bodies.Given as goal

abbrev pub invariant-loop-method : goal.invariant-loop-method
invariant-loop-method l =
    (image : Image) → Knows l.members image
    → first_in (λ m. option_and_then (fault_by image l.place l.pass) m.body) (take l.method-index l.methods) ≡ None
