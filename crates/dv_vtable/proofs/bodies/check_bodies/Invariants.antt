use Rattle.std.proofs.Common.{◌≡◌, None, take}
use Rattle.dv_defs.specs.First.{first_in}
use Rattle.dv_defs.specs.LinkFaults.{body_wrong}
use Rattle.dv_vtable.proofs.bodies.check_bodies.Given as goal

abbrev pub invariant-loop-method : goal.invariant-loop-method
invariant-loop-method l = first_in (body_wrong l.boot l.place l.class) (take l.method-index l.method-items) ≡ None
