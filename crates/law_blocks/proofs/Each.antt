-- What holds of each element of a list that is put together from others, and lists that rise.
use Rattle.std.specs.Prelude.{slice_get, filter, cond}
use Rattle.std.proofs.Common.{◌≡◌, ℕ, zero, suc, List, [], ◌∷◌, ◌++◌, map, Bool, true, false, Some, refl, subst}
use Rattle.std.proofs.lemmas.Option.{same_Some}
use Rattle.dv_worklist.specs.Flow.{Onward}

abbrev pub Each : {X : Type 0} → (X → Type 0) → List X → Type 0
Each {X} P xs = (k : ℕ) (x : X) → slice_get xs k ≡ Some x → P x

module _ {X : Type 0} (P : X → Type 0) where
  pub each_nil : Each P []
  each_nil = λ k x at. absurd (cc)

  pub each_cons : (a : X) (xs : List X) → P a → Each P xs → Each P (a ∷ xs)
  each_cons a xs p e zero x at = subst P (same_Some a x at) p
  each_cons a xs p e (suc k) x at = e k x at

  pub each_left : (xs ys : List X) → Each P (xs ++ ys) → Each P xs
  each_left [] ys e k x at = absurd (cc)
  each_left (a ∷ xs) ys e zero x at = e zero x at
  each_left (a ∷ xs) ys e (suc k) x at = each_left xs ys (λ j y there. e (suc j) y there) k x at

  pub each_right : (xs ys : List X) → Each P (xs ++ ys) → Each P ys
  each_right [] ys e k x at = e k x at
  each_right (a ∷ xs) ys e k x at = each_right xs ys (λ j y there. e (suc j) y there) k x at

  pub each_both : (xs ys : List X) → Each P xs → Each P ys → Each P (xs ++ ys)
  each_both [] ys e f k x at = f k x at
  each_both (a ∷ xs) ys e f zero x at = e zero x at
  each_both (a ∷ xs) ys e f (suc k) x at = each_both xs ys (λ j y there. e (suc j) y there) f k x at

  pub each_of : (xs ys : List X) → xs ≡ ys → Each P xs → Each P ys
  each_of xs ys is e = subst (λ (z : List X). Each P z) is e

-- what is made of each element
pub each_map : {X Y : Type 0} (P : Y → Type 0) (f : X → Y) (xs : List X) → Each (λ x. P (f x)) xs → Each P (map f xs)
each_map P f [] e = each_nil P
each_map P f (a ∷ xs) e = each_cons P (f a) (map f xs) (e 0 a refl) (each_map P f xs (λ k x at. e (suc k) x at))

-- ---- what is made of the elements that pass a test

module _ {X Y : Type 0} (P : Y → Type 0) (test : X → Bool) (f : X → Y) where
  abbrev pub made : List X → List Y
  made xs = map f (filter test xs)

  abbrev made_by : Bool → X → List X → List Y
  made_by b x xs = map f (cond b (x ∷ filter test xs) (filter test xs))

  abbrev pub Passes : X → Type 0
  Passes x = test x ≡ true → P (f x)

  made_from : (x : X) (xs : List X) (b : Bool) → test x ≡ b → Passes x → Each P (made xs) → Each P (made_by b x xs)
  made_from x xs true e p rest = each_cons P (f x) (made xs) (p e) rest
  made_from x xs false e p rest = rest

  pub each_made : (xs : List X) → Each Passes xs → Each P (made xs)
  each_made [] all = each_nil P
  each_made (x ∷ xs) all = made_from x xs (test x) refl (all 0 x refl) (each_made xs (λ k y at. all (suc k) y at))

  made_head : (x : X) (xs : List X) (b : Bool) → test x ≡ b → Each P (made_by b x xs) → Passes x
  made_head x xs true e each = λ passes. each 0 (f x) refl
  made_head x xs false e each = λ passes. absurd (cc)

  made_tail : (x : X) (xs : List X) (b : Bool) → Each P (made_by b x xs) → Each P (made xs)
  made_tail x xs true each = λ k y at. each (suc k) y at
  made_tail x xs false each = each

  pub made_each : (xs : List X) → Each P (made xs) → Each Passes xs
  made_each [] each = each_nil Passes
  made_each (x ∷ xs) each = each_cons Passes x xs (made_head x xs (test x) refl each) (made_each xs (made_tail x xs (test x) each))

-- ---- what goes on from a lower state goes on from a higher one, in the same order

module _ {S : Type 0} (under : S → S → Bool) where
  -- at the same place in the other list, to the same place, with a state above
  abbrev pub HasHigher : List (Onward S) → ℕ → Onward S → Type 0
  HasHigher ys k o = (p : Onward S) × (slice_get ys k ≡ Some p) × (p.to ≡ o.to) × (under o.state p.state ≡ true)

  abbrev pub Rises : List (Onward S) → List (Onward S) → Type 0
  Rises xs ys = (k : ℕ) (o : Onward S) → slice_get xs k ≡ Some o → HasHigher ys k o

  pub rises_nil : (ys : List (Onward S)) → Rises [] ys
  rises_nil ys = λ k o at. absurd (cc)

  pub rises_cons : (a b : Onward S) (xs ys : List (Onward S)) → b.to ≡ a.to → under a.state b.state ≡ true → Rises xs ys → Rises (a ∷ xs) (b ∷ ys)
  rises_cons a b xs ys to above r zero o at = subst (λ (z : Onward S). HasHigher (b ∷ ys) zero z) (same_Some a o at) (b, refl, to, above)
  rises_cons a b xs ys to above r (suc k) o at = r k o at

  pub rises_map :
      {X : Type 0} (f g : X → Onward S) → ((x : X) → (g x).to ≡ (f x).to) → ((x : X) → under (f x).state (g x).state ≡ true) →
      (xs : List X) → Rises (map f xs) (map g xs)
  rises_map f g to above [] = rises_nil []
  rises_map f g to above (x ∷ xs) = rises_cons (f x) (g x) (map f xs) (map g xs) (to x) (above x) (rises_map f g to above xs)
