-- The first of what a function gives, over the numbers below a bound, or over a list.
use Rattle.std.specs.Prelude.{ℕ, zero, suc, Bool, List, [], ◌∷◌, Option, Some, None, if◌then◌else◌}
use Rattle.std.specs.Option.{option_or}

-- over the numbers below n
abbrev pub first_below : {Y : Type 0} → (ℕ → Option Y) → ℕ → Option Y
first_below f zero = None
first_below f (suc n) = option_or (first_below f n) (f n)

-- over a list
abbrev pub first_in : {X Y : Type 0} → (X → Option Y) → List X → Option Y
first_in f [] = None
first_in f (x ∷ xs) = option_or (f x) (first_in f xs)

abbrev pub when : {Y : Type 0} → Bool → Y → Option Y
when b y = if b then Some y else None
