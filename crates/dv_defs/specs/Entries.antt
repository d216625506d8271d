-- Lists in which each entry stands once, in first-seen order.
use Rattle.std.specs.Prelude.{◌≡◌, ℕ, Bool, List, [], ◌∷◌, ◌++◌, Option, position, Some, None}

-- the entries, and this one at their end, unless it is there
abbrev pub with_entry : {X : Type 0} → (X → X → Bool) → List X → X → List X
with_entry eq xs x = elim (position (eq x) xs) [ None ↦ xs ++ x ∷ [] | Some k ↦ xs ]

-- what is known of each entry is its place
abbrev pub ArePlaces : {X : Type 0} → (X → X → Bool) → List X → (X → Option ℕ) → Type 0
ArePlaces {X} eq xs place_of = (x : X) → place_of x ≡ position (eq x) xs
