-- A small flow of the numbers up to 3, on which the worklist is tested.
use Rattle.std.specs.Prelude.{◌<◌, ◌-◌, ℕ, max, nat_le, List, [], ◌∷◌, map, slice_index_or}
use Rattle.dv_worklist.specs.Flow.{Onward, Flow}

-- by place, where to the ways from there lead, and the least number that each brings: a loop from place 1 over 2, a
-- branch at 0 that joins at 4, and place 5, to which no way leads
abbrev pub all_ways : List (List (ℕ × ℕ))
all_ways = ((1, 0) ∷ (3, 0) ∷ []) ∷ ((2, 1) ∷ []) ∷ ((1, 0) ∷ (4, 0) ∷ []) ∷ ((4, 2) ∷ []) ∷ [] ∷ ((4, 3) ∷ []) ∷ []

-- the ways from a place
abbrev pub ways : ℕ → List (ℕ × ℕ)
ways place = slice_index_or all_ways place []

-- what a number brings by a way
abbrev pub brought : ℕ → ℕ × ℕ → Onward ℕ
brought number way = record { to = way.0; state = max number way.1 }

-- the flow along the ways, from 0 at the first place; a number is under those that are not less
abbrev pub numbers : Flow ℕ
numbers = record {
  size = 6;
  entry = 0;
  under = nat_le;
  join = max;
  onward = λ place number. map (brought number) (ways place);
}

-- every place takes the numbers up to 3
abbrev pub number_fits : ℕ → ℕ → Type 0
number_fits place number = number < 4

-- how often a number can still rise
abbrev pub number_rank : ℕ → ℕ
number_rank number = 3 - number
