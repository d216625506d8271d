-- Threads that are lent, by number.
use Rattle.std.proofs.Common.{◌≡◌, ◌≢◌, ◌<◌, ◌≤◌, ℕ, suc, Bool, true, false, List, [], ◌∷◌, All, length, sym, arith}
use mathlib.Core.Bool.{cond}
use Rattle.std.specs.Prelude.{not, nat_eq}
use Rattle.std.proofs.lemmas.Bool.{eq-eqb, eqb-true, true≢false}
use Rattle.std.proofs.lemmas.List.Elements.{All-cons, All-nil}
use Rattle.dv_sound.specs.Lending.{without}

without_few : (lent : List ℕ) (t : ℕ) → length (without lent t) ≤ length lent
without_few [] t = omega arith
without_few (u ∷ us) t = by_same (nat_eq u t) (without_few us t)
  where
    by_same : (b : Bool) → length (without us t) ≤ length us → length (cond (not b) (u ∷ without us t) (without us t)) ≤ suc (length us)
    by_same true few = omega (arith, few)
    by_same false few = omega (arith, few)

-- without one of them there are fewer
pub without_fewer : (lent : List ℕ) (t : ℕ) → (All (λ u. u ≢ t) lent → ⊥) → length (without lent t) < length lent
without_fewer [] t away = absurd (away (All-nil (λ u. u ≢ t)))
without_fewer (u ∷ us) t away = by_same (nat_eq u t) (eqb-true u t) (eq-eqb u t) (without_few us t) (without_fewer us t)
  where
    by_same : (b : Bool) → (b ≡ true → u ≡ t) → (u ≡ t → b ≡ true) → length (without us t) ≤ length us → ((All (λ x. x ≢ t) us → ⊥) → length (without us t) < length us) →
        length (cond (not b) (u ∷ without us t) (without us t)) < suc (length us)
    by_same true is same few fewer = omega (arith, few)
    by_same false is same few fewer = let rest = fewer (λ all. away (All-cons (λ x. x ≢ t) u us (λ e. true≢false (sym (same e))) all)) in omega (arith, rest)
