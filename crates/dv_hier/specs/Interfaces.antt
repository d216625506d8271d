-- The interfaces above classes, listed class by class: each class after those that it names.
use Rattle.std.specs.Prelude.{◌≡◌, ℕ, Bool, true, false, List, [], ◌∷◌, ◌++◌, flat_map, Option, Some, None, slice_get}
use Rattle.std.specs.List.{list_all}
use Rattle.dv_defs.specs.declared.names.ClassId.{ClassId}
use Rattle.dv_defs.specs.declared.image.ClassInfo.{ClassInfo}
use Rattle.dv_defs.specs.Images.{Image}
use Rattle.dv_defs.specs.LookUp.{interfaces_above, once}
use Rattle.dv_defs.specs.Order.{has_number, numbers}

-- the numbers, and after them each of others that isn't there yet
abbrev pub added : List ℕ → List ℕ → List ℕ
added xs [] = xs
added xs (y ∷ ys) = elim (has_number y xs) [ true ↦ added xs ys | false ↦ added (xs ++ y ∷ []) ys ]

-- by class: its list, where it has one
abbrev pub Lists : Type 0
Lists = List (Option (List ClassId))

abbrev pub has_list : Option (Option (List ClassId)) → Bool
has_list None = false
has_list (Some None) = false
has_list (Some (Some above)) = true

abbrev pub is_listed : Lists → ℕ → Bool
is_listed lists c = has_list (slice_get lists c)

abbrev pub are_ready : Lists → List ℕ → Bool
are_ready lists cs = list_all (is_listed lists) cs

abbrev pub listed_in : Option (Option (List ClassId)) → List ℕ
listed_in None = []
listed_in (Some None) = []
listed_in (Some (Some above)) = numbers above

abbrev pub list_of : Lists → ℕ → List ℕ
list_of lists c = listed_in (slice_get lists c)

-- interfaces, each before those above it
abbrev pub listed : Lists → List ℕ → List ℕ
listed lists cs = added [] (flat_map (λ c. c ∷ list_of lists c) cs)

-- each list has the interfaces above its class, in order
abbrev pub AreRight : Image → Lists → Type 0
AreRight image lists = (c : ℕ) → is_listed lists c ≡ true → list_of lists c ≡ once (interfaces_above image c)

abbrev pub unlisted : ClassInfo → Option (List ClassId)
unlisted info = None

abbrev pub or_empty : Option (List ClassId) → List ClassId
or_empty None = []
or_empty (Some above) = above
