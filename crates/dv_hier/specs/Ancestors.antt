-- The classes above a class, as they are marked in a row of all classes.
use Rattle.std.specs.Prelude.{◌≡◌, ℕ, Bool, ◌||◌, List, [], ◌∷◌, length, flat_map, slice_index_or}
use Rattle.dv_defs.specs.declared.names.ClassId.{ClassId}
use Rattle.dv_defs.specs.Order.{has_number, numbers}
use Rattle.dv_hier.specs.Upwards.{is_marked}

-- the interfaces that are listed for a class
abbrev pub listed_at : List (List ClassId) → ℕ → List ℕ
listed_at interfaces c = numbers (slice_index_or interfaces c [])

-- classes, each before the interfaces that are listed for it
abbrev pub with_interfaces : List (List ClassId) → List ℕ → List ℕ
with_interfaces interfaces cs = flat_map (λ c. c ∷ listed_at interfaces c) cs

-- these classes are marked too
pub record HasMarked (cs : List ℕ) (before marks : List Bool) : Type 0 where
  pub many : length marks ≡ length before
  pub marked : (d : ℕ) → is_marked marks d ≡ (is_marked before d || has_number d cs)
