-- Which method a call on an object of a class selects (JVMS 5.4.6; JLS 9.4.1, 15.12.4.4).
use Rattle.std.specs.Prelude.{ℕ, Bool, true, false, ◌&&◌, not, List, [], ◌∷◌, length, filter, filter_map, flat_map, Some, None, nat_eq, bytes_eq, if◌then◌else◌}
use Rattle.std.specs.List.{list_any, range_with_len}
use Rattle.dv_defs.specs.declared.names.Proto.{Proto}
use Rattle.dv_defs.specs.declared.image.Select.{Select}
use Rattle.dv_defs.specs.declared.image.Select.TheVariants as select
use Rattle.dv_defs.specs.Images.{Image}
use Rattle.dv_defs.specs.Names.{init_name}
use Rattle.dv_defs.specs.Pools.{Method, method_at, nearest, is_static, is_private, is_constructor, is_abstract}
use Rattle.dv_defs.specs.Order.{has_number}
use Rattle.dv_defs.specs.LookUp.{interfaces_above, superinterfaces, once, is_method_of}

-- an instance method that is neither private nor a constructor
abbrev pub is_callable : Method → Bool
is_callable m = not (is_static m) && not (is_private m) && not (is_constructor m)

abbrev pub all_methods : Image → List Method
all_methods image = filter_map (method_at image) (range_with_len 0 (length image.methods))

abbrev pub callable_of_class : Image → ℕ → List Method
callable_of_class image c = filter (λ m. nat_eq m.info.class.0 c && is_callable m) (all_methods image)

-- ---- the methods of interfaces

-- those of all superinterfaces of a class and of its superclasses, in the order of look-up
abbrev pub offered : Image → ℕ → List Method
offered image c = flat_map (callable_of_class image) (once (superinterfaces image c))

-- and of a name and prototype
abbrev pub offered_as : Image → ℕ → List ℕ → Proto → List Method
offered_as image c name proto = filter (is_method_of name proto) (offered image c)

-- one of some methods is declared below a method's interface
abbrev pub is_overridden : Image → List Method → Method → Bool
is_overridden image ms m = list_any (λ n. has_number m.info.class.0 (interfaces_above image n.info.class.0)) ms

-- the most specific of some methods
abbrev pub most_specific : Image → List Method → List Method
most_specific image ms = filter (λ m. not (is_overridden image ms m)) ms

abbrev pub only : List Method → Select
only [] = select.Abstract
only (m ∷ []) = select.Found (record { 0 = m.id })
only (m ∷ n ∷ ms) = select.Clash

-- the only one of the most specific that isn't abstract; two clash
abbrev pub chosen : Image → List Method → Select
chosen image ms = only (filter (λ m. not (is_abstract m)) (most_specific image ms))

-- ---- selection

-- an abstract method can't be run
abbrev pub itself : Method → Select
itself m = if is_abstract m then select.Abstract else select.Found (record { 0 = m.id })

-- the nearest instance method of a class and its superclasses that isn't private; only where there is none, what interfaces offer.
-- A constructor is never selected
unfoldable pub selected : Image → ℕ → List ℕ → Proto → Select
selected image c name proto =
    elim (bytes_eq name init_name) [
      | true ↦ select.Abstract
      | false ↦ elim (nearest image c name proto) [ Some m ↦ itself m | None ↦ chosen image (offered_as image c name proto) ]
    ]
