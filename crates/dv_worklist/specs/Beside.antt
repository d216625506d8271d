-- A flow of states that are kept with something that stays.
use Rattle.std.specs.Prelude.{◌≡◌, ℕ, List, map, Option, option_map}
use Rattle.dv_worklist.specs.Flow.{Onward, Flow}

-- a state with what it is kept with
pub record Kept (S T : Type 0) : Type 0 where
  pub state : S
  pub beside : T

abbrev pub kept : {S T : Type 0} → T → S → Kept S T
kept t s = record { state = s; beside = t }

abbrev pub onward_kept : {S T : Type 0} → T → Onward S → Onward (Kept S T)
onward_kept t o = record { to = o.to; state = kept t o.state }

-- the flow of states, each kept with t
abbrev pub flow_beside : {S T : Type 0} → T → Flow S → Flow (Kept S T)
flow_beside t f =
    record {
      size = f.size;
      entry = kept t f.entry;
      under = λ a b. f.under a.state b.state;
      join = λ a b. kept a.beside (f.join a.state b.state);
      onward = λ place a. map (onward_kept a.beside) (f.onward place a.state);
    }

-- it is kept with t, and its state fits
abbrev pub fits_beside : {S T : Type 0} → T → (ℕ → S → Type 0) → ℕ → Kept S T → Type 0
fits_beside t fits place a = (a.beside ≡ t) × fits place a.state

abbrev pub rank_beside : {S T : Type 0} → (S → ℕ) → Kept S T → ℕ
rank_beside rank a = rank a.state

-- the states alone
abbrev pub alone : {S T : Type 0} → List (Option (Kept S T)) → List (Option S)
alone xs = map (option_map (λ a. a.state)) xs
