-- Lists that grow at their end or change at one place.
use Rattle.std.proofs.Common.{subst, ◌≡◌, ◌≢◌, ◌⊎◌, inl, inr, ℕ, zero, suc, List, [], ◌∷◌, ◌++◌, length, Some, None, refl, sym, ap, arith}
use Rattle.std.specs.Prelude.{slice_get, slice_set, All}
use Rattle.std.proofs.lemmas.Option.{same_Some}

pub get_front : {A : Type 0} (xs ys : List A) (k : ℕ) (x : A) → slice_get xs k ≡ Some x → slice_get (xs ++ ys) k ≡ Some x
get_front [] ys k x e = absurd (cc)
get_front (z ∷ xs) ys zero x e = e
get_front (z ∷ xs) ys (suc k) x e = get_front xs ys k x e

pub get_new : {A : Type 0} (xs : List A) (x : A) → slice_get (xs ++ x ∷ []) (length xs) ≡ Some x
get_new [] x = refl
get_new (z ∷ xs) x = get_new xs x

pub get_end : {A : Type 0} (xs : List A) → slice_get xs (length xs) ≡ None
get_end [] = refl
get_end (z ∷ xs) = get_end xs

-- a place of a list with one element more is an old one, or the last
pub push_cases : {A : Type 0} (xs : List A) (a x : A) (k : ℕ) → slice_get (xs ++ a ∷ []) k ≡ Some x → (slice_get xs k ≡ Some x) ⊎ ((k ≡ length xs) × (a ≡ x))
push_cases [] a x zero e = inr (refl, same_Some a x e)
push_cases [] a x (suc k) e = absurd (cc)
push_cases (z ∷ xs) a x zero e = inl e
push_cases (z ∷ xs) a x (suc k) e = more (push_cases xs a x k e)
  where
    more : (slice_get xs k ≡ Some x) ⊎ ((k ≡ length xs) × (a ≡ x)) → (slice_get xs k ≡ Some x) ⊎ ((suc k ≡ suc (length xs)) × (a ≡ x))
    more (inl h) = inl h
    more (inr h) = inr (ap suc h.0, h.1)

pub set_there : {A : Type 0} (xs : List A) (k : ℕ) (v x : A) → slice_get xs k ≡ Some x → slice_get (slice_set xs k v) k ≡ Some v
set_there [] k v x e = absurd (cc)
set_there (y ∷ ys) zero v x e = refl
set_there (y ∷ ys) (suc k) v x e = set_there ys k v x e

-- what stands there, written again, changes nothing
pub set_same : {A : Type 0} (xs : List A) (k : ℕ) (x : A) → slice_get xs k ≡ Some x → slice_set xs k x ≡ xs
set_same [] k x e = refl
set_same (y ∷ ys) zero x e = ap (λ z. z ∷ ys) (sym (same_Some y x e))
set_same (y ∷ ys) (suc k) x e = ap (λ zs. y ∷ zs) (set_same ys k x e)

pub set_other : {A : Type 0} (xs : List A) (k j : ℕ) (v : A) → j ≢ k → slice_get (slice_set xs k v) j ≡ slice_get xs j
set_other [] k j v d = refl
set_other (y ∷ ys) zero zero v d = absurd (d refl)
set_other (y ∷ ys) zero (suc j) v d = refl
set_other (y ∷ ys) (suc k) zero v d = refl
set_other (y ∷ ys) (suc k) (suc j) v d = set_other ys k j v (λ e. d (ap suc e))

-- what holds of each element holds of the one that is found
pub all_at : {A : Type 0} (P : A → Type 0) (xs : List A) (k : ℕ) (x : A) → All P xs → slice_get xs k ≡ Some x → P x
all_at P [] k x a e = absurd (cc)
all_at P (y ∷ ys) zero x a e = subst (λ z. P z) (same_Some y x e) (a 0 x (omega arith))
all_at P (y ∷ ys) (suc k) x a e = all_at P ys k x (λ j d h. a (suc j) d (omega arith)) e

-- and of each where it holds of each that is found
pub all_from : {A : Type 0} (P : A → Type 0) (xs : List A) → ((k : ℕ) (x : A) → slice_get xs k ≡ Some x → P x) → All P xs
all_from P [] f k d h = absurd (omega arith)
all_from P (y ∷ ys) f zero d h = f 0 y refl
all_from P (y ∷ ys) f (suc k) d h = all_from P ys (λ j x e. f (suc j) x e) k d (omega arith)
