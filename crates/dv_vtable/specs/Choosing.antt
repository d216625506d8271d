-- Which of several methods of interfaces a call selects, by marks of classes.
use Rattle.std.specs.Prelude.{◌≡◌, ℕ, Bool, false, ◌||◌, not, List, [], ◌∷◌, filter_map, Some, None, slice_index_or, if◌then◌else◌}
use Rattle.std.specs.List.{list_any}
use Rattle.dv_defs.specs.declared.names.MethodId.{MethodId}
use Rattle.dv_defs.specs.declared.image.Select.{Select}
use Rattle.dv_defs.specs.declared.image.Select.TheVariants as select
use Rattle.dv_defs.specs.Images.{Image}
use Rattle.dv_defs.specs.LookUp.{interfaces_above}
use Rattle.dv_defs.specs.Order.{has_number}
use Rattle.dv_defs.specs.Pools.{Method, method_at, is_abstract}

-- just these numbers are marked
abbrev pub AreMarked : List Bool → List ℕ → Type 0
AreMarked marks cs = (d : ℕ) → slice_index_or marks d false ≡ has_number d cs

abbrev pub methods_at : Image → List MethodId → List Method
methods_at image ids = filter_map (λ id. method_at image id.0) ids

-- a class is above the interface of one of some methods
abbrev pub above_any : Image → List Method → ℕ → Bool
above_any image ms d = list_any (λ n. has_number d (interfaces_above image n.info.class.0)) ms

abbrev pub is_unmarked : List Bool → Method → Bool
is_unmarked marks m = not (slice_index_or marks m.info.class.0 false)

-- two methods clash
abbrev pub joined : Select → MethodId → Select
joined select.Abstract id = select.Found id
joined (select.Found other) id = select.Clash
joined select.Clash id = select.Clash

-- with one method more, where it has no mark and isn't abstract
abbrev pub also_selected : Image → List Bool → Select → MethodId → Select
also_selected image marks s id =
    elim (method_at image id.0) [ None ↦ s | Some m ↦ if slice_index_or marks m.info.class.0 false || is_abstract m then s else joined s id ]

-- with some more
abbrev pub also_all : Image → List Bool → Select → List MethodId → Select
also_all image marks s [] = s
also_all image marks s (id ∷ ids) = also_all image marks (also_selected image marks s id) ids
