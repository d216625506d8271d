-- What goes on from a place, by the numbers of the states that do.
use Rattle.std.specs.Prelude.{◌<◌, ℕ, List, [], ◌∷◌, ◌++◌, Option, Some, None, All, slice_get}
use Rattle.dv_worklist.specs.declared.onwards.Way.{Way}
use Rattle.dv_worklist.specs.Flow.{Onward}

abbrev pub way_to : ℕ → ℕ → Way
way_to state to = record { to = to; state = state }

-- a state of that number goes to the place, where there is one
abbrev pub goes : {S : Type 0} → ℕ → Option S → List (Onward S)
goes to None = []
goes to (Some s) = record { to = to; state = s } ∷ []

abbrev pub onwards_of : {S : Type 0} → List S → List Way → List (Onward S)
onwards_of states [] = []
onwards_of states (w ∷ ws) = goes w.to (slice_get states w.state) ++ onwards_of states ws

-- each way is that of one of so many states
abbrev pub AreWithin : ℕ → List Way → Type 0
AreWithin n ways = All (λ w. w.state < n) ways
