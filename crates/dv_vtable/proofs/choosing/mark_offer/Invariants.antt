use Rattle.std.proofs.Common.{◌≡◌, ℕ, ◌∷◌, false, take, if◌then◌else◌}
use Rattle.std.specs.Prelude.{slice_index_or}
use Rattle.dv_defs.specs.Images.{Image}
use Rattle.dv_vtable.specs.Choosing.{above_any, methods_at}
use Rattle.dv_vtable.specs.Sources.{IsOf}
use Rattle.dv_vtable.proofs.choosing.mark_offer.Given as goal

abbrev pub invariant-loop-method : goal.invariant-loop-method
invariant-loop-method l =
    (image : Image) → IsOf l.sources image → (d : ℕ)
    → slice_index_or l.marks d false
    ≡ (if above_any image (methods_at image (l.offer.first ∷ take l.method-index l.offer.others.now)) d then l.mark else slice_index_or l.fn.marks d false)
