-- Keys rise where each is below the next.
use Rattle.std.proofs.Common.{◌≡◌, ℕ, ◌-◌, ◌<◌, ◌≤◌, true, List, [], ◌∷◌, length, drop, refl, sym, ◌∙◌, arith, length-drop}
use Rattle.std.specs.Prelude.{ℤ}
use Rattle.dv_typing.specs.Accepting.{rises}

-- the keys from the one before a place on rise just where all do
pub record RiseFrom (keys : List ℤ) (i : ℕ) : Type 0 where
  pub positive : 0 < i
  pub same : rises (drop (i - 1) keys) ≡ rises keys

few : (keys : List ℤ) → length keys ≤ 1 → rises keys ≡ true
few [] h = refl
few (k ∷ []) h = refl
few (k ∷ l ∷ keys) h = absurd (omega arith)

pub at_end : (keys : List ℤ) (i : ℕ) → RiseFrom keys i → length keys ≤ i → true ≡ rises keys
at_end keys i r h = sym (few (drop (i - 1) keys) (omega (arith, length-drop (i - 1) keys, r.positive))) ∙ r.same
