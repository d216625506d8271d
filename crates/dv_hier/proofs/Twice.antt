-- An item is told twice where the first that is like it stands before it.
use Rattle.std.proofs.Common.{◌≡◌, ◌+◌, ◌<◌, ◌≤◌, ℕ, suc, Bool, true, false, not, ◌||◌, List, [], ◌∷◌, length, take, get_or, position, Option, Some, None, is_some, cond, refl, sym, ap, ◌∙◌, arith}
use Rattle.std.specs.Prelude.{nat_lt}
use Rattle.std.specs.List.{list_any, position_or_len}
use Rattle.std.proofs.lemmas.List.{get_or-take, length-take-le}
use Rattle.std.proofs.lemmas.List.Sums.{position_or_len_is, fails_before_first}
use Rattle.std.proofs.lemmas.List.Quantifiers.{position-Some}

place_found : {X : Type 0} (p : X → Bool) (xs : List X) (k : ℕ) → position_or_len p xs ≡ k → k < length xs → position p xs ≡ Some k
place_found p xs k place within = grind arith

place_none : {X : Type 0} (p : X → Bool) (xs : List X) → position p xs ≡ None → length xs ≤ position_or_len p xs
place_none p xs none = grind arith

-- none of the earlier ones passes: this one is the first that does
pub first_here : {X : Type 0} (p : X → Bool) (xs : List X) (i : ℕ) (d : X) → position p (take i xs) ≡ None → i < length xs → p (get_or xs i d) ≡ true → position p xs ≡ Some i
first_here {X} p xs i d none within here =
    let few : length (take i xs) ≡ i = length-take-le i xs (omega arith) in
    let past : i ≤ position_or_len p (take i xs) = omega (arith, place_none p (take i xs) none) in
    let before : (k : ℕ) → k < i → p (get_or xs k d) ≡ false =
    λ k less. ap p (sym (get_or-take i xs k d less)) ∙ fails_before_first p (take i xs) k d (omega arith) in
    place_found p xs i (position_or_len_is p xs i d (omega arith) before (λ h. here)) within

-- one of the earlier ones passes: it is the first that does
pub first_before : {X : Type 0} (p : X → Bool) (xs : List X) (i k : ℕ) (d : X) → position p (take i xs) ≡ Some k → i ≤ length xs → (position p xs ≡ Some k) × (k < i)
first_before {X} p xs i k d found within =
    let few : length (take i xs) ≡ i = length-take-le i xs within in
    let parts = position-Some p (take i xs) k d found in
    let less : k < i = omega (arith, parts.0) in
    let before : (j : ℕ) → j < k → p (get_or xs j d) ≡ false =
    λ j smaller. ap p (sym (get_or-take i xs j d (omega arith))) ∙ parts.2 j smaller in
    let here : p (get_or xs k d) ≡ true = ap p (sym (get_or-take i xs k d less)) ∙ parts.1 in
    (place_found p xs k (position_or_len_is p xs k d (omega arith) before (λ h. here)) (omega arith), less)

any_step : (b rest : Bool) (place len : ℕ) → rest ≡ nat_lt place len → nat_lt (cond (not b) (1 + place) 0) (suc len) ≡ (b || rest)
any_step true rest place len e = grind arith
any_step false rest place len e = grind arith

any_place : {X : Type 0} (p : X → Bool) (xs : List X) → nat_lt (position_or_len p xs) (length xs) ≡ list_any p xs
any_place p [] = refl
any_place p (x ∷ xs) = any_step (p x) (list_any p xs) (position_or_len p xs) (length xs) (sym (any_place p xs))

some_if : (b : Bool) (k : ℕ) → is_some (cond b (Some k) None) ≡ b
some_if true k = refl
some_if false k = refl

-- there is a first that passes just where one passes
pub some_place : {X : Type 0} (p : X → Bool) (xs : List X) → is_some (position p xs) ≡ list_any p xs
some_place p xs = some_if (nat_lt (position_or_len p xs) (length xs)) (position_or_len p xs) ∙ any_place p xs

pub some_of : (o : Option ℕ) → is_some o ≡ true → (k : ℕ) × (o ≡ Some k)
some_of None some = absurd (cc)
some_of (Some k) some = (k, refl)

pub none_of : (o : Option ℕ) → is_some o ≡ false → o ≡ None
none_of None none = refl
none_of (Some k) none = absurd (cc)
