-- Where no class depends on itself, none is among its superclasses.
use Rattle.std.specs.Prelude.{ℕ, zero, suc, ◌≡◌, ◌<◌, ◌≤◌, ◌-◌, false, List, [], length, Option, Some, None, slice_get, nat_eq}
use Rattle.std.proofs.Common.{refl, arith}
use Rattle.std.proofs.lemmas.List.{length-map}
use Rattle.std.proofs.lemmas.Option.{slice_get-map, slice_get_within}
use Rattle.dv_defs.specs.declared.image.ClassInfo.{ClassInfo}
use Rattle.dv_defs.specs.declared.faults.LinkKind.TheVariants as kind
use Rattle.dv_defs.specs.Images.{Image}
use Rattle.dv_defs.specs.Pools.{parent_of, parent_at}
use Rattle.dv_defs.specs.Order.{has_number, with_parent, interfaces_of, above, any_of, reaches, implements}
use Rattle.dv_defs.specs.LinkFaults.{first_fault_by, fault_at, found, on_cycle}
use Rattle.dv_defs.specs.Linked.{defs}
use Rattle.law_linking.proofs.First.{first_below_none, when_none, map_none}
use Rattle.dv_hier.specs.Slots.{walked, IsAcyclic}
use Rattle.dv_hier.proofs.Cells.{neither, walked_none}

-- what no way up reaches stands in no chain
unreached : (image : Image) (d n m : ℕ) (o : Option ℕ) (ds : List ℕ) → n ≤ m
    → any_of (reaches image m d) (with_parent o ds) ≡ false → has_number d (walked image.classes n o) ≡ false
unreached image d zero m o ds less none = refl
unreached image d (suc n) m None ds less none = refl
unreached image d (suc n) zero (Some p) ds less none = absurd (omega arith)
unreached image d (suc n) (suc m) (Some p) ds less none =
    let first = neither (reaches image (suc m) d p) (any_of (reaches image (suc m) d) ds) none in
    let parts = neither (nat_eq p d) (any_of (reaches image m d) (above image p)) first.0 in
    rw (parts.0, has_number)
    (unreached image d n m (parent_at image p) (interfaces_of (slice_get image.classes p)) (omega arith) parts.1)

acyclic_at : (image : Image) → first_fault_by (on_cycle image) (defs image.classes) ≡ None → (c : ℕ) (o : Option ClassInfo)
    → slice_get image.classes c ≡ o → has_number c (walked image.classes (length image.classes - 1) (parent_of o)) ≡ false
acyclic_at image none c None there = rw (walked_none image.classes (length image.classes - 1)) refl
acyclic_at image none c (Some info) there =
    let within : c < length (defs image.classes) =
    rw (length-map image.classes (λ i. i.def)) (slice_get_within image.classes c info there) in
    let at : slice_get (defs image.classes) c ≡ Some info.def = rw (slice_get-map (λ (i : ClassInfo). i.def) image.classes c, there) refl in
    let no_fault : fault_at (on_cycle image) (defs image.classes) c ≡ None =
    first_below_none (fault_at (on_cycle image) (defs image.classes)) (length (defs image.classes)) c none within in
    let untested = map_none (found info.def.name) (on_cycle image c info.def) (rw at at no_fault) in
    let unreached_here = when_none (any_of (λ d. implements image d c) (above image c)) kind.SuperCycle untested in
    let up : has_number c (walked image.classes (length image.classes - 1) (parent_of (slice_get image.classes c))) ≡ false =
    unreached image c (length image.classes - 1) (suc (length image.classes)) (parent_at image c) (interfaces_of (slice_get image.classes c)) (omega arith) unreached_here in
    rw there at up

pub acyclic_is : (image : Image) → first_fault_by (on_cycle image) (defs image.classes) ≡ None → IsAcyclic image.classes
acyclic_is image none c = acyclic_at image none c (slice_get image.classes c) refl

-- as a call that finds no cycle tells it, of each image of the classes
pub acyclic_of : (cs : List ClassInfo) → ((image : Image) → image.classes ≡ cs → first_fault_by (on_cycle image) (defs cs) ≡ None) → IsAcyclic cs
acyclic_of cs none = acyclic_is (record { classes = cs; methods = []; fields = []; boot = 0 }) (none (record { classes = cs; methods = []; fields = []; boot = 0 }) refl)
