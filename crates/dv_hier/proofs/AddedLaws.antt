-- Numbers that are added each once.
use Rattle.std.specs.Prelude.{◌≡◌, ℕ, Bool, true, false, ◌&&◌, ◌||◌, not, List, [], ◌∷◌, ◌++◌, filter, flat_map, nat_eq}
use Rattle.std.proofs.Common.{refl, sym, ap, ◌∙◌, cond, arith}
use Rattle.dv_defs.specs.LookUp.{once}
use Rattle.dv_defs.specs.Order.{has_number}
use Rattle.dv_hier.specs.Interfaces.{added}

-- ---- filters

abbrev kept : {X : Type 0} → Bool → X → List X → List X
kept b x xs = cond b (x ∷ xs) xs

filter_both : {X : Type 0} (p q : X → Bool) (xs : List X) → filter p (filter q xs) ≡ filter (λ x. q x && p x) xs
filter_both p q [] = refl
filter_both {X} p q (x ∷ xs) = here (q x) (p x) refl (filter_both p q xs)
  where
    here : (a b : Bool) → p x ≡ b → filter p (filter q xs) ≡ filter (λ x. q x && p x) xs → filter p (kept a x (filter q xs)) ≡ kept (a && b) x (filter (λ x. q x && p x) xs)
    here true true e rest = ap (λ (c : Bool). kept c x (filter p (filter q xs))) e ∙ ap (λ ys. x ∷ ys) rest
    here true false e rest = ap (λ (c : Bool). kept c x (filter p (filter q xs))) e ∙ rest
    here false b e rest = rest

filter_same : {X : Type 0} (p q : X → Bool) (xs : List X) → ((x : X) → p x ≡ q x) → filter p xs ≡ filter q xs
filter_same p q xs same = λ j. filter (λ x. same x j) xs

filter_all : {X : Type 0} (xs : List X) → filter (λ x. true) xs ≡ xs
filter_all [] = refl
filter_all (x ∷ xs) = ap (λ ys. x ∷ ys) (filter_all xs)

append_assoc : {X : Type 0} (xs ys zs : List X) → (xs ++ ys) ++ zs ≡ xs ++ (ys ++ zs)
append_assoc [] ys zs = refl
append_assoc (x ∷ xs) ys zs = ap (λ ws. x ∷ ws) (append_assoc xs ys zs)

-- ---- added in two steps

pub added_append : (xs ys zs : List ℕ) → added xs (ys ++ zs) ≡ added (added xs ys) zs
added_append xs [] zs = refl
added_append xs (y ∷ ys) zs = here (has_number y xs) (added_append xs ys zs) (added_append (xs ++ y ∷ []) ys zs)
  where
    here : (b : Bool) → added xs (ys ++ zs) ≡ added (added xs ys) zs → added (xs ++ y ∷ []) (ys ++ zs) ≡ added (added (xs ++ y ∷ []) ys) zs
        → elim b as (λ _. List ℕ) [ true ↦ added xs (ys ++ zs) | false ↦ added (xs ++ y ∷ []) (ys ++ zs) ] ≡ added (elim b as (λ _. List ℕ) [ true ↦ added xs ys | false ↦ added (xs ++ y ∷ []) ys ]) zs
    here true there absent = there
    here false there absent = absent

-- ---- those that are added are those that aren't there yet, each once

abbrev is_fresh : List ℕ → ℕ → Bool
is_fresh xs d = not (has_number d xs)

abbrev is_other : ℕ → ℕ → Bool
is_other y d = not (nat_eq y d)

has_last : (d y : ℕ) (xs : List ℕ) → has_number d (xs ++ y ∷ []) ≡ (has_number d xs || nat_eq y d)
has_last d y [] = here (nat_eq y d)
  where
    here : (b : Bool) → elim b as (λ _. Bool) [ true ↦ true | false ↦ false ] ≡ (false || b)
    here true = refl
    here false = refl
has_last d y (x ∷ xs) = here (nat_eq x d) (has_last d y xs)
  where
    here : (b : Bool) → has_number d (xs ++ y ∷ []) ≡ (has_number d xs || nat_eq y d)
        → elim b as (λ _. Bool) [ true ↦ true | false ↦ has_number d (xs ++ y ∷ []) ] ≡ (elim b as (λ _. Bool) [ true ↦ true | false ↦ has_number d xs ] || nat_eq y d)
    here true rest = refl
    here false rest = rest

equal_number : (y d : ℕ) → nat_eq y d ≡ true → y ≡ d
equal_number y d same = grind (arith)

fresh_there : (xs : List ℕ) (y : ℕ) → has_number y xs ≡ true → (d : ℕ) → (is_other y d && is_fresh xs d) ≡ is_fresh xs d
fresh_there xs y there d = here (nat_eq y d) refl
  where
    here : (b : Bool) → nat_eq y d ≡ b → (not b && is_fresh xs d) ≡ is_fresh xs d
    here true same = ap not (sym (ap (λ (n : ℕ). has_number n xs) (sym (equal_number y d same)) ∙ there))
    here false other = refl

fresh_last : (xs : List ℕ) (y d : ℕ) → is_fresh (xs ++ y ∷ []) d ≡ (is_other y d && is_fresh xs d)
fresh_last xs y d = ap not (has_last d y xs) ∙ here (has_number d xs) (nat_eq y d)
  where
    here : (a b : Bool) → not (a || b) ≡ (not b && not a)
    here true true = refl
    here true false = refl
    here false true = refl
    here false false = refl

added_is : (ys xs : List ℕ) → added xs ys ≡ xs ++ filter (is_fresh xs) (once ys)
added_is [] xs = sym (nothing xs)
  where
    nothing : (xs : List ℕ) → xs ++ [] ≡ xs
    nothing [] = refl
    nothing (x ∷ xs) = ap (λ zs. x ∷ zs) (nothing xs)
added_is (y ∷ ys) xs = here (has_number y xs) refl (added_is ys xs) (added_is ys (xs ++ y ∷ []))
  where
    here : (b : Bool) → has_number y xs ≡ b → added xs ys ≡ xs ++ filter (is_fresh xs) (once ys) → added (xs ++ y ∷ []) ys ≡ (xs ++ y ∷ []) ++ filter (is_fresh (xs ++ y ∷ [])) (once ys)
        → elim b as (λ _. List ℕ) [ true ↦ added xs ys | false ↦ added (xs ++ y ∷ []) ys ] ≡ xs ++ kept (not (has_number y xs)) y (filter (is_fresh xs) (filter (is_other y) (once ys)))
    here true e there absent =
        there ∙ sym (ap (λ (b : Bool). xs ++ kept (not b) y (filter (is_fresh xs) (filter (is_other y) (once ys)))) e ∙
        ap (λ zs. xs ++ zs) (filter_both (is_fresh xs) (is_other y) (once ys) ∙ filter_same (λ d. is_other y d && is_fresh xs d) (is_fresh xs) (once ys) (fresh_there xs y e)))
    here false e there absent =
        absent ∙ (append_assoc xs (y ∷ []) (filter (is_fresh (xs ++ y ∷ [])) (once ys)) ∙
        sym (ap (λ (b : Bool). xs ++ kept (not b) y (filter (is_fresh xs) (filter (is_other y) (once ys)))) e ∙
        ap (λ zs. xs ++ y ∷ zs) (filter_both (is_fresh xs) (is_other y) (once ys) ∙ filter_same (λ d. is_other y d && is_fresh xs d) (is_fresh (xs ++ y ∷ [])) (once ys) (λ d. sym (fresh_last xs y d)))))

pub once_added : (ys : List ℕ) → added [] ys ≡ once ys
once_added ys = added_is ys [] ∙ filter_all (once ys)

-- ---- once and once again

once_filter : (p : ℕ → Bool) (ys : List ℕ) → once (filter p ys) ≡ filter p (once ys)
once_filter p [] = refl
once_filter p (y ∷ ys) = here (p y) refl (once_filter p ys)
  where
    swapped : (a b : Bool) → (a && b) ≡ (b && a)
    swapped true true = refl
    swapped true false = refl
    swapped false true = refl
    swapped false false = refl

    other : p y ≡ false → (d : ℕ) → p d ≡ (is_other y d && p d)
    other fails d = by (nat_eq y d) refl
      where
        by : (b : Bool) → nat_eq y d ≡ b → p d ≡ (not b && p d)
        by true same = ap p (sym (equal_number y d same)) ∙ fails
        by false differs = refl

    here : (b : Bool) → p y ≡ b → once (filter p ys) ≡ filter p (once ys) → once (kept b y (filter p ys)) ≡ kept b y (filter p (filter (is_other y) (once ys)))
    here true e rest =
        ap (λ zs. y ∷ zs) (ap (filter (is_other y)) rest ∙ (filter_both (is_other y) p (once ys) ∙
        (filter_same (λ d. p d && is_other y d) (λ d. is_other y d && p d) (once ys) (λ d. swapped (p d) (is_other y d)) ∙ sym (filter_both p (is_other y) (once ys)))))
    here false e rest = rest ∙ (filter_same p (λ d. is_other y d && p d) (once ys) (other e) ∙ sym (filter_both p (is_other y) (once ys)))

once_once : (ys : List ℕ) → once (once ys) ≡ once ys
once_once [] = refl
once_once (y ∷ ys) =
    ap (λ zs. y ∷ zs) (ap (filter (is_other y)) (once_filter (is_other y) (once ys)) ∙ (filter_both (is_other y) (is_other y) (once (once ys)) ∙
    (filter_same (λ d. is_other y d && is_other y d) (is_other y) (once (once ys)) (λ d. twice (is_other y d)) ∙ ap (filter (is_other y)) (once_once ys))))
  where
    twice : (b : Bool) → (b && b) ≡ b
    twice true = refl
    twice false = refl

pub added_once : (xs ys : List ℕ) → added xs (once ys) ≡ added xs ys
added_once xs ys = added_is (once ys) xs ∙ (ap (λ zs. xs ++ filter (is_fresh xs) zs) (once_once ys) ∙ sym (added_is ys xs))

-- of numbers each with others behind it, it is the same whether these stand there once
pub added_flat : (f : ℕ → List ℕ) (xs cs : List ℕ) → added xs (flat_map (λ c. c ∷ once (f c)) cs) ≡ added xs (flat_map (λ c. c ∷ f c) cs)
added_flat f xs [] = refl
added_flat f xs (c ∷ cs) =
    added_append xs (c ∷ once (f c)) (flat_map (λ c. c ∷ once (f c)) cs) ∙
    (ap (λ zs. added zs (flat_map (λ c. c ∷ once (f c)) cs)) (added_append xs (c ∷ []) (once (f c)) ∙ (added_once (added xs (c ∷ [])) (f c) ∙ sym (added_append xs (c ∷ []) (f c)))) ∙
    (added_flat f (added xs (c ∷ f c)) cs ∙ sym (added_append xs (c ∷ f c) (flat_map (λ c. c ∷ f c) cs))))
