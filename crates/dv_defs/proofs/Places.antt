-- The places of a pool's entries, where one is added that wasn't there.
use Rattle.std.proofs.Common.{◌≡◌, ◌+◌, ◌≤◌, ℕ, Bool, true, false, cond, List, [], ◌∷◌, ◌++◌, length, Option, Some, None, refl, sym, ap, ◌∙◌, arith, length-append}
use Rattle.std.specs.Prelude.{position, nat_eq, nat_lt}
use Rattle.std.specs.Option.{is_some}
use Rattle.std.specs.Cmp.{IsEquivalence}
use Rattle.std.specs.List.{position_or_len}
use Rattle.std.proofs.lemmas.Bool.Decides.{nat_tests}
use Rattle.std.proofs.lemmas.List.Folds.{position_or_len_push}
use Rattle.std.proofs.lemmas.List.Sums.{prefix_len-le-length}
use Rattle.dv_defs.specs.Entries.{ArePlaces}

-- the place, where the first that passes is at `place`, which is the length where none does
place_if : ℕ → ℕ → Option ℕ
place_if place len = cond (nat_lt place len) (Some place) None

one_more : (place len : ℕ) (passes : Bool) → place ≤ len → place_if (cond (nat_eq place len) (len + cond passes 0 1) place) (len + 1) ≡ cond (nat_lt place len) (Some place) (cond passes (Some len) None)
unfolding place_if
one_more place len true h = grind (arith, nat_tests)
one_more place len false h = grind (arith, nat_tests)

in_order : (found same : Bool) (place len : ℕ) → (same ≡ true → cond found (Some place) None ≡ None) → cond found (Some place) (cond same (Some len) None) ≡ cond same (Some len) (cond found (Some place) None)
in_order true true place len absent = absurd (let none : Some place ≡ None = absent refl in cc)
in_order true false place len absent = refl
in_order false same place len absent = refl

position_push : {X : Type 0} {eq : X → X → Bool} → IsEquivalence eq → (xs : List X) (x q : X) → position (eq x) xs ≡ None → position (eq q) (xs ++ x ∷ []) ≡ cond (eq x q) (Some (length xs)) (position (eq q) xs)
unfolding place_if
position_push {X} {eq} laws xs x q absent =
    let place : ℕ = position_or_len (eq q) xs in
    let len : ℕ = length xs in
    let pushed : position (eq q) (xs ++ x ∷ []) ≡ place_if (cond (nat_eq place len) (len + cond (eq q x) 0 1) place) (len + 1) = λ i. place_if (position_or_len_push (eq q) xs x i) (length-append xs (x ∷ []) i) in
    let known : position (eq q) (xs ++ x ∷ []) ≡ cond (nat_lt place len) (Some place) (cond (eq x q) (Some len) None) = pushed ∙ (one_more place len (eq q x) (prefix_len-le-length _ xs) ∙ ap (λ same. cond (nat_lt place len) (Some place) (cond same (Some len) None)) (laws.symm q x)) in
    known ∙ in_order (nat_lt place len) (eq x q) place len (λ same. (λ i. position (λ z. sym (laws.congr x q z same) i) xs) ∙ absent)

none_there : {X : Type 0} (found : Option X) → is_some found ≡ false → found ≡ None
none_there None h = refl
none_there (Some x) h = absurd (cc)

-- a copy of an entry that has no place is pushed, and another gets its place as a key
pub places_added : {X : Type 0} {eq : X → X → Bool} → IsEquivalence eq → (xs room pushed : List X) (entry key copy : X) (place : ℕ) (before after : X → Option ℕ) → ArePlaces eq xs before → is_some (before entry) ≡ false → key ≡ entry → copy ≡ entry → room ≡ xs → place ≡ length room → pushed ≡ room ++ copy ∷ [] → ((q : X) → after q ≡ cond (eq key q) (Some place) (before q)) → ArePlaces eq pushed after
places_added {X} {eq} laws xs room pushed entry key copy place before after known absent key_is copy_is room_is place_is pushed_is put q =
    let end : place ≡ length xs = place_is ∙ ap length room_is in
    let items : xs ++ entry ∷ [] ≡ pushed = sym (pushed_is ∙ (λ i. room_is i ++ copy_is i ∷ [])) in
    put q ∙ ((λ i. cond (eq (key_is i) q) (Some (end i)) (known q i)) ∙ (sym (position_push laws xs entry q (sym (known entry) ∙ none_there _ absent)) ∙ ap (position (eq q)) items))
