-- What one turn of the worklist does to the states and to the places that wait.
use Rattle.std.specs.Prelude.{◌≡◌, ◌<◌, ◌≤◌, ◌+◌, ◌*◌, ℕ, Bool, true, not, cond, List, [], length, Option, Some, None, IfSome, slice_get, slice_set, sum_by, ◌⊎◌}
use Rattle.dv_worklist.specs.Flow.{Onward, Flow, Assignment, assigned, HasAbove, Arrives, AllFit, IsClosed, IsUnder, IsImplied}
use Rattle.dv_worklist.specs.Waiting.{Waits}

-- s is not yet under what the place has
abbrev pub rises : {S : Type 0} → Flow S → Option S → S → Bool
rises f None s = true
rises f (Some old) s = not (f.under s old)

-- the least state above s and above what the place has
abbrev pub raised : {S : Type 0} → Flow S → Option S → S → S
raised f None s = s
raised f (Some old) s = f.join old s

-- the states once s has arrived at a place
abbrev pub states_after : {S : Type 0} → Flow S → List (Option S) → ℕ → S → List (Option S)
states_after f xs place s =
    cond (rises f (assigned xs place) s) (slice_set xs place (Some (raised f (assigned xs place) s))) xs

-- the places that wait once s has arrived at a place
abbrev pub waiting_after : {S : Type 0} → Flow S → List (Option S) → List Bool → ℕ → S → List Bool
waiting_after f xs flags place s = cond (rises f (assigned xs place) s) (slice_set flags place true) flags

-- what goes on from a place, by the state that it has
abbrev pub goes_on : {S : Type 0} → Flow S → ℕ → Option S → List (Onward S)
goes_on f place None = []
goes_on f place (Some s) = f.onward place s

-- under every closed assignment; each state fits; a place that has a state waits, or is busy, or what goes on from it arrives
pub record IsPartly {S : Type 0} (f : Flow S) (fits busy : ℕ → S → Type 0) (xs : List (Option S)) (flags : List Bool) : Type 0 where
  pub long : length xs ≡ f.size
  pub flagged : length flags ≡ f.size
  pub fit : AllFit fits (assigned xs)
  pub settled :
      (place : ℕ) (s : S) → assigned xs place ≡ Some s →
      Waits flags place ⊎ (busy place s ⊎ Arrives f (assigned xs) place s)
  pub least : (b : Assignment S) → IsClosed f b → IsUnder f (assigned xs) b

-- no place is busy
abbrev pub none_busy : {S : Type 0} → ℕ → S → Type 0
none_busy place s = ⊥

-- one place is busy with the state that it has
abbrev pub busy_at : {S : Type 0} → ℕ → List (Option S) → ℕ → S → Type 0
busy_at at xs place s = (place ≡ at) × (assigned xs at ≡ Some s)

-- what was under the state of a place stays so
abbrev pub IsGrown : {S : Type 0} → Flow S → List (Option S) → List (Option S) → Type 0
IsGrown {S} f xs ys = (place : ℕ) (s : S) → HasAbove f (assigned xs) place s → HasAbove f (assigned ys) place s

-- how often the state of a place can still rise
abbrev pub room : {S : Type 0} → (S → ℕ) → ℕ → Option S → ℕ
room rank top None = top
room rank top (Some s) = rank s

-- how many places wait
abbrev pub count_waiting : List Bool → ℕ
count_waiting flags = sum_by (λ flag. cond flag 1 0) flags

-- what falls with each turn
abbrev pub work_left : {S : Type 0} → (S → ℕ) → ℕ → List (Option S) → List Bool → ℕ
work_left rank top xs flags = 2 * sum_by (room rank top) xs + count_waiting flags

-- the turn raised places, or left all as it was
pub record IsTurn {S : Type 0} (f : Flow S) (fits : ℕ → S → Type 0) (rank : S → ℕ) (top : ℕ) (busy : ℕ → S → Type 0) (xs : List (Option S)) (flags : List Bool) (ys : List (Option S)) (later : List Bool) : Type 0 where
  pub partly : IsPartly f fits busy ys later
  pub grown : IsGrown f xs ys
  pub less : work_left rank top ys later ≤ work_left rank top xs flags

-- the first k of what goes on from a place have arrived
pub record IsSpread {S : Type 0} (f : Flow S) (fits : ℕ → S → Type 0) (rank : S → ℕ) (top : ℕ) (at : ℕ) (xs : List (Option S)) (flags : List Bool) (k : ℕ) (ys : List (Option S)) (later : List Bool) : Type 0 where
  pub turn : IsTurn f fits rank top (busy_at at xs) xs flags ys later
  pub arrived :
      (j : ℕ) (o : Onward S) → j < k → slice_get (goes_on f at (assigned xs at)) j ≡ Some o →
      HasAbove f (assigned ys) o.to o.state

-- the first place has a state above the entry's
pub record IsBegun {S : Type 0} (f : Flow S) (fits : ℕ → S → Type 0) (xs : List (Option S)) (flags : List Bool) : Type 0 where
  pub partly : IsPartly f fits none_busy xs flags
  pub entry : HasAbove f (assigned xs) 0 f.entry

-- ---- what arrives with more behind it

-- what a place has and what arrives there imply more, where there is more
abbrev pub IsMore : {S : Type 0} → Flow S → (ℕ → S → Type 0) → List (Option S) → ℕ → S → Option S → Type 0
IsMore {S} f fits xs place s more = IfSome more (λ m. (old : S) × (assigned xs place ≡ Some old) × IsImplied f fits place old s m)

-- the states, and the places that wait, once more has arrived, where there is more
abbrev pub states_with : {S : Type 0} → Flow S → List (Option S) → ℕ → Option S → List (Option S)
states_with f xs place None = xs
states_with f xs place (Some m) = states_after f xs place m

abbrev pub waiting_with : {S : Type 0} → Flow S → List (Option S) → List Bool → ℕ → Option S → List Bool
waiting_with f xs flags place None = flags
waiting_with f xs flags place (Some m) = waiting_after f xs flags place m

-- s has arrived at a place, and behind it more
pub record IsArrival {S : Type 0} (f : Flow S) (fits : ℕ → S → Type 0) (xs : List (Option S)) (flags : List Bool) (place : ℕ) (s : S) (ys : List (Option S)) (later : List Bool) : Type 0 where
  pub more : Option S
  pub implied : IsMore f fits xs place s more
  pub states : ys ≡ states_with f (states_after f xs place s) place more
  pub waiting : later ≡ waiting_with f (states_after f xs place s) (waiting_after f xs flags place s) place more
