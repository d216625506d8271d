-- Flow of states from place to place, and the least assignment of states that is closed under it.
use Rattle.std.specs.Prelude.{◌≡◌, ◌<◌, ◌⊎◌, ℕ, Bool, true, List, Option, Some, None, slice_get, slice_index_or}

-- a state that goes on to a place
pub record Onward (S : Type 0) : Type 0 where
  pub to : ℕ
  pub state : S

-- states that go on from places: where from, the order of states with its join, and what goes on to where
pub record Flow (S : Type 0) : Type 0 where
  pub size : ℕ
  pub entry : S
  pub under : S → S → Bool
  pub join : S → S → S
  pub onward : ℕ → S → List (Onward S)

-- a state for some of the places
abbrev pub Assignment : Type 0 → Type 0
Assignment S = ℕ → Option S

-- what a list of states gives each place; past its end it gives none
abbrev pub assigned : {S : Type 0} → List (Option S) → Assignment S
assigned xs place = slice_index_or xs place None

-- the place has a state that s is under
pub record HasAbove {S : Type 0} (f : Flow S) (a : Assignment S) (place : ℕ) (s : S) : Type 0 where
  pub state : S
  pub there : a place ≡ Some state
  pub above : f.under s state ≡ true

-- all that goes on from a place with a state arrives
abbrev pub Arrives : {S : Type 0} → Flow S → Assignment S → ℕ → S → Type 0
Arrives {S} f a place s = (k : ℕ) (o : Onward S) → slice_get (f.onward place s) k ≡ Some o → HasAbove f a o.to o.state

-- the first place has a state above the entry's, and what goes on from each state arrives
pub record IsClosed {S : Type 0} (f : Flow S) (a : Assignment S) : Type 0 where
  pub entry : HasAbove f a 0 f.entry
  pub arrives : (place : ℕ) (s : S) → a place ≡ Some s → Arrives f a place s

-- each place of the one assignment has a state above it in the other
abbrev pub IsUnder : {S : Type 0} → Flow S → Assignment S → Assignment S → Type 0
IsUnder {S} f a b = (place : ℕ) (s : S) → a place ≡ Some s → HasAbove f b place s

-- closed, and under every other that is
pub record IsLeast {S : Type 0} (f : Flow S) (a : Assignment S) : Type 0 where
  pub closed : IsClosed f a
  pub least : (b : Assignment S) → IsClosed f b → IsUnder f a b

-- each state fits its place
abbrev pub AllFit : {S : Type 0} → (ℕ → S → Type 0) → Assignment S → Type 0
AllFit {S} fits a = (place : ℕ) (s : S) → a place ≡ Some s → fits place s

-- what goes on from the lower state goes on from the higher one, to the same place, under a state that is above
abbrev pub IsMonotone : {S : Type 0} → Flow S → (ℕ → S → Type 0) → Type 0
IsMonotone {S} f fits =
    (place : ℕ) (s t : S) → fits place s → f.under s t ≡ true → (k : ℕ) (o : Onward S) →
    slice_get (f.onward place s) k ≡ Some o →
    (p : Onward S) × (slice_get (f.onward place t) k ≡ Some p) × (p.to ≡ o.to) × (f.under o.state p.state ≡ true)

-- an order with least upper bounds of states that fit one place, in which what is above ranks less, so that nothing rises for ever
pub record IsJoinOrder {S : Type 0} (f : Flow S) (fits : ℕ → S → Type 0) (rank : S → ℕ) : Type 0 where
  pub same : (s : S) → f.under s s ≡ true
  pub trans : (s t u : S) → f.under s t ≡ true → f.under t u ≡ true → f.under s u ≡ true
  pub first : (place : ℕ) (s t : S) → fits place s → fits place t → f.under s (f.join s t) ≡ true
  pub second : (place : ℕ) (s t : S) → fits place s → fits place t → f.under t (f.join s t) ≡ true
  pub lowest :
      (place : ℕ) (s t u : S) → fits place s → fits place t → f.under s u ≡ true → f.under t u ≡ true →
      f.under (f.join s t) u ≡ true
  pub joined : (place : ℕ) (s t : S) → fits place s → fits place t → fits place (f.join s t)
  pub near : (place : ℕ) (s t : S) → fits place s → fits place t → f.under s t ≡ true → (s ≡ t) ⊎ (rank t < rank s)

-- what order and flow owe
pub record IsLawful {S : Type 0} (f : Flow S) (fits : ℕ → S → Type 0) (rank : S → ℕ) (top : ℕ) : Type 0 where
  pub order : IsJoinOrder f fits rank
  pub monotone : IsMonotone f fits
  pub entry_fits : fits 0 f.entry
  -- what goes on fits where it arrives, and that is a place
  pub onward_fits :
      (place : ℕ) (s : S) → fits place s → (k : ℕ) (o : Onward S) → slice_get (f.onward place s) k ≡ Some o →
      fits o.to o.state × (o.to < f.size)
  pub below : (place : ℕ) (s : S) → fits place s → rank s < top

-- each closed assignment that is above two states at a place is above this one there
pub record IsImplied {S : Type 0} (f : Flow S) (fits : ℕ → S → Type 0) (place : ℕ) (s t more : S) : Type 0 where
  pub fit : fits place more
  pub bound : (b : Assignment S) → IsClosed f b → HasAbove f b place s → HasAbove f b place t → HasAbove f b place more
