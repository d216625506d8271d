-- The class that a name has, and what names by number stay when more are added.
use Rattle.std.proofs.Common.{◌≡◌, ◌<◌, ℕ, List, length, Option, Some, None, sym}
use Rattle.std.specs.Prelude.{IfSome}
use Rattle.dv_defs.specs.Images.{Image}
use Rattle.dv_defs.specs.Pools.{name_at, class_named}
use Rattle.law_types.proofs.Walks.{named_inside, named_is}

pub is_within : (image : Image) (name : List ℕ) (r : Option ℕ) → r ≡ class_named image name → IfSome r (λ c. c < length image.classes)
is_within image name None is = tt
is_within image name (Some c) is = named_inside image name c (sym is)

pub is_named : (image : Image) (name : List ℕ) (r : Option ℕ) → r ≡ class_named image name → IfSome r (λ c. name_at image c ≡ name)
is_named image name None is = tt
is_named image name (Some c) is = named_is image name c (sym is)
