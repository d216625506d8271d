use Rattle.std.proofs.Common.{◌≡◌, ◌∷◌, drop}
use Rattle.dv_defs.specs.Images.{Image}
use Rattle.dv_defs.specs.declared.image.Select.TheVariants as select
use Rattle.dv_vtable.specs.Choosing.{also_all}
use Rattle.dv_vtable.specs.Sources.{IsOf}
use Rattle.dv_vtable.proofs.choosing.unmarked.Given as goal

abbrev pub invariant-loop-method : goal.invariant-loop-method
invariant-loop-method l =
    (image : Image) → IsOf l.sources image
    → also_all image l.marks l.select (drop l.method-index l.offer.others.now) ≡ also_all image l.marks select.Abstract (l.offer.first ∷ l.offer.others.now)
