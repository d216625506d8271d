-- The rule of the place in which a machine lies, over any value that has names.
use Rattle.std.specs.Prelude.{◌≡◌, ℕ, [], ◌∷◌, ◌⊎◌, true, false, ◌==◌, MatchBool, Option, Some}
use mathlib.Core.Option.{some, none}
use lib.ListN.{get_elem?}
use Rattle.atomic_table.specs.Table.{State, Me, Step, rest}
use Rattle.dv_workers.specs.declared.view.Names.{Names}
use Rattle.dv_workers.specs.declared.view.View.{View}

-- a seat that doesn't hold
abbrev pub aside : Names → View
aside n = record { of = n; holds = false }

abbrev pub held : View → View
held v = record { of = v.of; holds = true }

abbrev pub let_go : View → View
let_go v = record { of = v.of; holds = false }

-- a view names this
abbrev pub Fits : Names → View → Type 0
Fits n v = v.of ≡ n

module _ {D : Type 0} (named : D → Names) where
  -- no seat has the value, and it has these names
  abbrev pub Home : Names → State (Option D) View → Type 0
  Home n s = (d : D) × (s.words ≡ 1 ∷ []) × (s.homes ≡ some (Some d) ∷ []) × (named d ≡ n)
      × ((seat : ℕ) (v : View) → get_elem? s.views seat ≡ some v → v.holds ≡ false)

  -- one seat has the slot, and no other
  abbrev pub Out : Names → State (Option D) View → Type 0
  Out n s = (holder : ℕ) × (x : View) × (s.words ≡ 0 ∷ []) × (s.homes ≡ none ∷ []) × (get_elem? s.views holder ≡ some x) × (x.holds ≡ true)
      × ((seat : ℕ) (v : View) → get_elem? s.views seat ≡ some v → v.holds ≡ true → seat ≡ holder)

  pub record Kept (n : Names) (s : State (Option D) View) : Type 0 where
    pub fit : (seat : ℕ) (v : View) → get_elem? s.views seat ≡ some v → Fits n v
    pub place : Home n s ⊎ Out n s

  -- the machine is taken, or the slot was empty and nothing changed
  abbrev pub Took : Me (Option D) View → ℕ → Me (Option D) View → Type 0
  Took m found w = MatchBool (found == 1) ((d : D) × (w ≡ (held m.0, (0, Some d) ∷ m.1)) × (m.0.of ≡ named d)) (w ≡ m)

  abbrev pub Takes : Step (Option D) → Me (Option D) View → ℕ → Me (Option D) View → Type 0
  Takes st = Took

  -- the machine is put back
  abbrev pub Puts : Step (Option D) → Me (Option D) View → ℕ → Me (Option D) View → Type 0
  Puts st m found w = w ≡ (let_go m.0, rest m.1)
