-- The numbers of an image's classes.
use Rattle.std.proofs.Common.{◌≡◌, ℕ, ◌<◌, ◌^◌, List, length, Option, Some, None, arith}
use Rattle.std.proofs.lemmas.List.{length-map}
use Rattle.dv_defs.specs.declared.names.Base.{Base}
use Rattle.dv_defs.specs.declared.image.ClassInfo.{ClassInfo}
use Rattle.dv_defs.specs.Images.{Image}
use Rattle.dv_defs.specs.Linked.{IsImage, defs}
use Rattle.dv_defs.specs.Op.{class_of_base}
use Rattle.dv_defs.specs.Pools.{class_named}
use Rattle.dv_defs.specs.Types.{class_in}
use Rattle.law_linking.proofs.Bounds.{few_classes}
use Rattle.law_linking.proofs.FromFaults.{no_first_fault}
use Rattle.law_linking.proofs.OrderedImages.{image_phases}
use Rattle.law_types.proofs.Walks.{named_inside}

-- they fit 32 bits
pub few : (image : Image) → IsImage image → length image.classes < 2 ^ 32
few image is =
    let no = no_first_fault (defs image.classes) image.boot (image_phases image is).0 in
    omega (arith, few_classes (defs image.classes) image.boot no.boots no.limits no.twice, length-map image.classes (λ (i : ClassInfo). i.def))

named_by : (o : Option (List ℕ)) (image : Image) (c : ℕ) → elim o [ None ↦ None | Some name ↦ class_named image name ] ≡ Some c → c < length image.classes
named_by None image c e = absurd (cc (e))
named_by (Some name) image c e = named_inside image name c e

-- the class that a type names is one of them
pub base_inside : (image : Image) (b : Base) (c : ℕ) → class_of_base image b ≡ Some c → c < length image.classes
base_inside image b c e = named_by (class_in b) image c e
