-- What holds of each element of a list, also of one that is put together from others.
use Rattle.std.specs.Prelude.{slice_get, filter, cond, All}
use Rattle.std.proofs.Common.{◌≡◌, ℕ, zero, suc, List, [], ◌∷◌, ◌++◌, map, Bool, true, false, Some, refl, subst}
use Rattle.std.proofs.lemmas.Option.{same_Some}
use Rattle.std.proofs.lemmas.List.Elements.{All-nil, All-cons, All-head, All-tail}

abbrev pub Each : {X : Type 0} → (X → Type 0) → List X → Type 0
Each {X} P xs = (k : ℕ) (x : X) → slice_get xs k ≡ Some x → P x

module _ {X : Type 0} (P : X → Type 0) where
  pub each_nil : Each P []
  each_nil = λ k x at. absurd (cc)

  pub each_cons : (a : X) (xs : List X) → P a → Each P xs → Each P (a ∷ xs)
  each_cons a xs p e zero x at = subst P (same_Some a x at) p
  each_cons a xs p e (suc k) x at = e k x at

  pub each_left : (xs ys : List X) → Each P (xs ++ ys) → Each P xs
  each_left [] ys e k x at = absurd (cc)
  each_left (a ∷ xs) ys e zero x at = e zero x at
  each_left (a ∷ xs) ys e (suc k) x at = each_left xs ys (λ j y there. e (suc j) y there) k x at

  pub each_right : (xs ys : List X) → Each P (xs ++ ys) → Each P ys
  each_right [] ys e k x at = e k x at
  each_right (a ∷ xs) ys e k x at = each_right xs ys (λ j y there. e (suc j) y there) k x at

  pub each_both : (xs ys : List X) → Each P xs → Each P ys → Each P (xs ++ ys)
  each_both [] ys e f k x at = f k x at
  each_both (a ∷ xs) ys e f zero x at = e zero x at
  each_both (a ∷ xs) ys e f (suc k) x at = each_both xs ys (λ j y there. e (suc j) y there) f k x at

-- ---- what is made of the elements that pass a test

module _ {X Y : Type 0} (P : Y → Type 0) (test : X → Bool) (f : X → Y) where
  abbrev made : List X → List Y
  made xs = map f (filter test xs)

  abbrev made_by : Bool → X → List X → List Y
  made_by b x xs = map f (cond b (x ∷ filter test xs) (filter test xs))

  abbrev pub Passes : X → Type 0
  Passes x = test x ≡ true → P (f x)

  made_from : (x : X) (xs : List X) (b : Bool) → test x ≡ b → Passes x → Each P (made xs) → Each P (made_by b x xs)
  made_from x xs true e p rest = each_cons P (f x) (made xs) (p e) rest
  made_from x xs false e p rest = rest

  pub each_made : (xs : List X) → All Passes xs → Each P (made xs)
  each_made [] all = each_nil P
  each_made (x ∷ xs) all = made_from x xs (test x) refl (All-head Passes x xs all) (each_made xs (All-tail Passes x xs all))

  made_head : (x : X) (xs : List X) (b : Bool) → test x ≡ b → Each P (made_by b x xs) → Passes x
  made_head x xs true e each = λ passes. each 0 (f x) refl
  made_head x xs false e each = λ passes. absurd (cc)

  made_tail : (x : X) (xs : List X) (b : Bool) → Each P (made_by b x xs) → Each P (made xs)
  made_tail x xs true each = λ k y at. each (suc k) y at
  made_tail x xs false each = each

  pub made_each : (xs : List X) → Each P (made xs) → All Passes xs
  made_each [] each = All-nil Passes
  made_each (x ∷ xs) each = All-cons Passes x xs (made_head x xs (test x) refl each) (made_each xs (made_tail x xs (test x) each))
