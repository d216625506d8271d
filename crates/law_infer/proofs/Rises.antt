-- What goes on from a lower state goes on from a higher one, in the same order.
use Rattle.std.specs.Prelude.{slice_get}
use Rattle.std.proofs.Common.{◌≡◌, ℕ, zero, suc, List, [], ◌∷◌, ◌++◌, map, Bool, true, Some, refl, subst}
use Rattle.std.proofs.lemmas.Option.{same_Some}
use Rattle.dv_worklist.specs.Flow.{Onward}

module _ {S : Type 0} (under : S → S → Bool) where
  -- at the same place in the other list, to the same place, with a state above
  abbrev pub HasHigher : List (Onward S) → ℕ → Onward S → Type 0
  HasHigher ys k o = (p : Onward S) × (slice_get ys k ≡ Some p) × (p.to ≡ o.to) × (under o.state p.state ≡ true)

  abbrev pub Rises : List (Onward S) → List (Onward S) → Type 0
  Rises xs ys = (k : ℕ) (o : Onward S) → slice_get xs k ≡ Some o → HasHigher ys k o

  pub rises_nil : (ys : List (Onward S)) → Rises [] ys
  rises_nil ys = λ k o at. absurd (cc)

  rises_cons : (a b : Onward S) (xs ys : List (Onward S)) → b.to ≡ a.to → under a.state b.state ≡ true → Rises xs ys → Rises (a ∷ xs) (b ∷ ys)
  rises_cons a b xs ys to above r zero o at = subst (λ (z : Onward S). HasHigher (b ∷ ys) zero z) (same_Some a o at) (b, refl, to, above)
  rises_cons a b xs ys to above r (suc k) o at = r k o at

  -- so does what each element makes, and then what follows
  pub rises_then :
      {X : Type 0} (f g : X → Onward S) → ((x : X) → (g x).to ≡ (f x).to) → ((x : X) → under (f x).state (g x).state ≡ true) →
      (xs : List X) (zs ws : List (Onward S)) → Rises zs ws → Rises (map f xs ++ zs) (map g xs ++ ws)
  rises_then f g to above [] zs ws r = r
  rises_then f g to above (x ∷ xs) zs ws r = rises_cons (f x) (g x) (map f xs ++ zs) (map g xs ++ ws) (to x) (above x) (rises_then f g to above xs zs ws r)

  pub rises_map :
      {X : Type 0} (f g : X → Onward S) → ((x : X) → (g x).to ≡ (f x).to) → ((x : X) → under (f x).state (g x).state ≡ true) →
      (xs : List X) → Rises (map f xs) (map g xs)
  rises_map f g to above [] = rises_nil []
  rises_map f g to above (x ∷ xs) = rises_cons (f x) (g x) (map f xs) (map g xs) (to x) (above x) (rises_map f g to above xs)
