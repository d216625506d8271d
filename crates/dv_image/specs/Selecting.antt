-- What calls on objects select, by the numbers of methods and of their names and prototypes.
use Rattle.std.specs.Prelude.{ℕ, ◌≡◌, Some, None}
use Rattle.dv_defs.specs.declared.image.Select.{Select}
use Rattle.dv_defs.specs.declared.image.Select.TheVariants as select
use Rattle.dv_defs.specs.Images.{Image}
use Rattle.dv_defs.specs.Pools.{Method, method_at}
use Rattle.dv_defs.specs.Linked.{key_of}
use Rattle.dv_defs.specs.Selecting.{selected}

-- what a call of the method of a number selects on an object of a class
abbrev pub selected_by : Image → ℕ → ℕ → Select
selected_by image c n = elim (method_at image n) [ None ↦ select.Abstract | Some g ↦ selected image c g.def.name g.def.proto ]

-- it is what a call of each method selects whose name and prototype have a number
abbrev pub IsSelectedFor : Image → ℕ → ℕ → Select → Type 0
IsSelectedFor image c number s = (m : Method) → method_at image m.id ≡ Some m → key_of image m ≡ number → s ≡ selected image c m.def.name m.def.proto
