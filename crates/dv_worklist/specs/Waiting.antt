-- A set of places, kept as a flag for each place.
use Rattle.std.specs.Prelude.{◌≡◌, ◌≤◌, ℕ, Bool, true, false, List, Option, Some, None, slice_index_or, slice_set}

-- the place is in the set
abbrev pub Waits : List Bool → ℕ → Type 0
Waits flags place = slice_index_or flags place false ≡ true

-- no place is in the set
abbrev pub NoneWaits : List Bool → Type 0
NoneWaits flags = (place : ℕ) → slice_index_or flags place false ≡ false

-- a place of the set, or none where the set is empty
abbrev pub IsOne : List Bool → Option ℕ → Type 0
IsOne flags None = NoneWaits flags
IsOne flags (Some place) = Waits flags place

-- a place of the set, or none where no place from one on is in it
abbrev pub IsOneFrom : ℕ → List Bool → Option ℕ → Type 0
IsOneFrom from flags None = (place : ℕ) → from ≤ place → slice_index_or flags place false ≡ false
IsOneFrom from flags (Some place) = Waits flags place

-- the set without the place
abbrev pub without : List Bool → Option ℕ → List Bool
without flags None = flags
without flags (Some place) = slice_set flags place false
