-- The numbers of an image's classes and fields fit 32 bits.
use Rattle.std.proofs.Common.{◌≤◌, length, arith}
use Rattle.std.proofs.lemmas.List.{length-map}
use Rattle.dv_defs.specs.declared.image.ClassInfo.{ClassInfo}
use Rattle.dv_defs.specs.Images.{Image}
use Rattle.dv_defs.specs.Linked.{IsImage, defs}
use Rattle.law_linking.proofs.Bounds as bounds
use Rattle.law_linking.proofs.ImageMembers.{image_passes}

pub few_classes : (image : Image) → IsImage image → length image.classes ≤ 1057
few_classes image is =
    let passes = image_passes image is in
    omega (
      arith,
      bounds.few_classes (defs image.classes) image.boot passes.0 passes.1 passes.2,
      length-map image.classes (λ (i : ClassInfo). i.def),
    )
