-- Copies of the names of classes, by class.
use Rattle.std.specs.Prelude.{◌≡◌, ℕ, List, Option, Some, None, slice_index_or}
use Rattle.dv_defs.specs.Images.{Image}
use Rattle.dv_defs.specs.Pools.{name_at}

-- what is there is the class's name
abbrev pub AreCopies : Image → List (Option (List ℕ)) → Type 0
AreCopies image names = (class : ℕ) (name : List ℕ) → slice_index_or names class None ≡ Some name → name ≡ name_at image class
