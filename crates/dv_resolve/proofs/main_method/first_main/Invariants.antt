use Rattle.std.proofs.Common.{◌≡◌, drop}
use Rattle.dv_defs.specs.Pools.{pick}
use Rattle.dv_resolve.specs.Mains.{test_of}
use Rattle.dv_resolve.proofs.main_method.first_main.Given as goal

abbrev pub invariant-loop-id : goal.invariant-loop-id
invariant-loop-id l =
    pick l.image l.image.methods 0 (test_of l.class l.form) ≡ pick l.image (drop l.id l.image.methods) l.id (test_of l.class l.form)
