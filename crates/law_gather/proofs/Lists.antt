-- Elements of lists that are put together of others.
use Rattle.std.specs.Prelude.{slice_get, filter, cond, option_map, All}
use Rattle.std.proofs.Common.{◌≡◌, ◌⊎◌, inl, inr, ℕ, zero, suc, ◌+◌, ◌<◌, List, [], ◌∷◌, ◌++◌, length, map, Bool, true, false, Some, refl, ap, ◌∙◌, subst, arith}
use Rattle.std.proofs.lemmas.Option.{same_Some, slice_get-map, get_or_from_slice_get}

-- ---- one list after another

module _ {X : Type 0} where
  pub in_first : (xs ys : List X) (k : ℕ) (x : X) → slice_get xs k ≡ Some x → slice_get (xs ++ ys) k ≡ Some x
  in_first [] ys k x e = absurd (cc)
  in_first (a ∷ xs) ys zero x e = e
  in_first (a ∷ xs) ys (suc k) x e = in_first xs ys k x e

  pub in_second : (xs ys : List X) (k j : ℕ) (x : X) → k ≡ length xs + j → slice_get ys j ≡ Some x → slice_get (xs ++ ys) k ≡ Some x
  in_second [] ys k j x q e = subst (λ (n : ℕ). slice_get ys n ≡ Some x) (let s : j ≡ k = omega (arith, q) in s) e
  in_second (a ∷ xs) ys zero j x q e = absurd (omega (arith, q))
  in_second (a ∷ xs) ys (suc k) j x q e = in_second xs ys k j x (omega (arith, q)) e

  -- it stands in the one or in the other
  pub record InSecond (xs ys : List X) (k : ℕ) (x : X) : Type 0 where
    pub place : ℕ
    pub after : k ≡ length xs + place
    pub there : slice_get ys place ≡ Some x

  pub in_either : (xs ys : List X) (k : ℕ) (x : X) → slice_get (xs ++ ys) k ≡ Some x → (slice_get xs k ≡ Some x) ⊎ InSecond xs ys k x
  in_either [] ys k x e = inr (record { place = k; after = omega arith; there = e })
  in_either (a ∷ xs) ys zero x e = inl e
  in_either (a ∷ xs) ys (suc k) x e = elim (in_either xs ys k x e) [
    | inl first ↦ inl first
    | inr s ↦ inr (record { place = s.place; after = omega (arith, s.after); there = s.there })
  ]

  pub within : (xs : List X) (k : ℕ) (x : X) → slice_get xs k ≡ Some x → k < length xs
  within [] k x e = absurd (cc)
  within (a ∷ xs) zero x e = omega arith
  within (a ∷ xs) (suc k) x e = let l = within xs k x e in omega (arith, l)

-- what holds of all holds of each
pub all_at : {X : Type 0} (P : X → Type 0) (xs : List X) (k : ℕ) (x : X) → All P xs → slice_get xs k ≡ Some x → P x
all_at P xs k x all e = subst P (get_or_from_slice_get xs k x x e) (all k x (within xs k x e))

-- ---- what is made of each element

-- it comes from an element at the same place
pub record IsMade {X Y : Type 0} (f : X → Y) (xs : List X) (k : ℕ) (y : Y) : Type 0 where
  pub from : X
  pub there : slice_get xs k ≡ Some from
  pub is : f from ≡ y

pub made_from : {X Y : Type 0} (f : X → Y) (xs : List X) (k : ℕ) (y : Y) → slice_get (map f xs) k ≡ Some y → IsMade f xs k y
made_from f [] k y e = absurd (cc)
made_from f (x ∷ xs) zero y e = record { from = x; there = refl; is = same_Some (f x) y e }
made_from f (x ∷ xs) (suc k) y e = let m = made_from f xs k y e in record { from = m.from; there = m.there; is = m.is }

pub made_of : {X Y : Type 0} (f : X → Y) (xs : List X) (k : ℕ) (x : X) → slice_get xs k ≡ Some x → slice_get (map f xs) k ≡ Some (f x)
made_of f xs k x e = slice_get-map f xs k ∙ ap (option_map f) e

-- ---- what passes a test

module _ {X : Type 0} (test : X → Bool) where
  abbrev passing : Bool → X → List X → List X
  passing b a xs = cond b (a ∷ filter test xs) (filter test xs)

  -- it stands somewhere in the list
  pub passed_from : (xs : List X) (j : ℕ) (x : X) → slice_get (filter test xs) j ≡ Some x → (i : ℕ) × (slice_get xs i ≡ Some x)
  passed_from [] j x e = absurd (cc)
  passed_from (a ∷ xs) j x e = by_test (passed_from xs) (test a) j e
    where
      by_test : ((m : ℕ) (y : X) → slice_get (filter test xs) m ≡ Some y → (i : ℕ) × (slice_get xs i ≡ Some y)) → (b : Bool) (m : ℕ) → slice_get (passing b a xs) m ≡ Some x → (i : ℕ) × (slice_get (a ∷ xs) i ≡ Some x)
      by_test later true zero q = (0, q)
      by_test later true (suc m) q = let r = later m x q in (suc r.0, r.1)
      by_test later false m q = let r = later m x q in (suc r.0, r.1)

  -- and what passes stands among the others that do
  pub passes : (xs : List X) (i : ℕ) (x : X) → slice_get xs i ≡ Some x → test x ≡ true → (j : ℕ) × (slice_get (filter test xs) j ≡ Some x)
  passes [] i x e t = absurd (cc)
  passes (a ∷ xs) zero x e t = by_test (test a) (ap test (same_Some a x e) ∙ t)
    where
      by_test : (b : Bool) → b ≡ true → (j : ℕ) × (slice_get (passing b a xs) j ≡ Some x)
      by_test true q = (0, e)
      by_test false q = absurd (cc)
  passes (a ∷ xs) (suc i) x e t = by_test (passes xs i x e t) (test a)
    where
      by_test : (j : ℕ) × (slice_get (filter test xs) j ≡ Some x) → (b : Bool) → (j : ℕ) × (slice_get (passing b a xs) j ≡ Some x)
      by_test r true = (suc r.0, r.1)
      by_test r false = r
