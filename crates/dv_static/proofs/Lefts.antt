-- Words left beside the arguments of methods.
use Rattle.std.proofs.Common.{◌≡◌, ◌⊎◌, inl, inr, ◌+◌, ◌-◌, ◌<◌, ◌≤◌, ℕ, suc, true, false, List, ◌∷◌, length, drop, Some, None, refl, sym, ap, ◌∙◌, arith, get_or, add-one, drop-cons}
use Rattle.std.specs.Prelude.{nat_le}
use Rattle.std.proofs.lemmas.Bool.{cases_lt}
use Rattle.std.proofs.lemmas.List.{drop_all}
use Rattle.dv_defs.specs.declared.names.Ty.{Ty}
use Rattle.dv_defs.specs.Types.{words_of, words_of_all}
use Rattle.dv_static.specs.Words.{left_beside}

fits : (a b : ℕ) → a ≤ b → nat_le a b ≡ true
fits a b less = grind arith

fits_not : (a b : ℕ) → b < a → nat_le a b ≡ false
fits_not a b less = grind arith

fitted : (room words : ℕ) → words ≤ room → left_beside room words ≡ Some (room - words)
fitted room words less = rw (fits words room less, left_beside) refl

unfitted : (room words : ℕ) → room < words → left_beside room words ≡ None
unfitted room words less = rw (fits_not words room less, left_beside) refl

-- words one after another
left_both : (room a b : ℕ) → a ≤ room → (room - a < b) ⊎ (b ≤ room - a) → left_beside room (a + b) ≡ left_beside (room - a) b
left_both room a b first (inr rest) =
    fitted room (a + b) (omega (arith, first, rest)) ∙
    (ap Some (omega arith) ∙ sym (fitted (room - a) b rest))
left_both room a b first (inl rest) = unfitted room (a + b) (omega (arith, first, rest)) ∙ sym (unfitted (room - a) b rest)

pub left_on : (room a b : ℕ) → a ≤ room → left_beside room (a + b) ≡ left_beside (room - a) b
left_on room a b first = left_both room a b first (cases_lt (room - a) b)

pub left_short : (room a b : ℕ) → room < a → left_beside room (a + b) ≡ None
left_short room a b less = unfitted room (a + b) (omega (arith, less))

-- ---- one type after another

rest_from : {X : Type 0} (xs : List X) (i : ℕ) (x : X) → i < length xs → x ≡ get_or xs i x → drop i xs ≡ x ∷ drop (i + 1) xs
rest_from xs i x within is = rw add-one (drop-cons xs i x within ∙ ap (λ y. y ∷ drop (suc i) xs) (sym is))

pub types_on : (left : ℕ) (ts : List Ty) (i : ℕ) (t : Ty) → i < length ts → t ≡ get_or ts i t → words_of t ≤ left
    → left_beside left (words_of_all (drop i ts)) ≡ left_beside (left - words_of t) (words_of_all (drop (i + 1) ts))
types_on left ts i t within at first =
    ap (λ us. left_beside left (words_of_all us)) (rest_from ts i t within at) ∙ left_on left (words_of t) (words_of_all (drop (i + 1) ts)) first

pub types_short : (left : ℕ) (ts : List Ty) (i : ℕ) (t : Ty) → i < length ts → t ≡ get_or ts i t → left < words_of t
    → left_beside left (words_of_all (drop i ts)) ≡ None
types_short left ts i t within at less =
    ap (λ us. left_beside left (words_of_all us)) (rest_from ts i t within at) ∙ left_short left (words_of t) (words_of_all (drop (i + 1) ts)) less

pub types_end : (left : ℕ) (ts : List Ty) (i : ℕ) → length ts ≤ i → left_beside left (words_of_all (drop i ts)) ≡ Some left
types_end left ts i past =
    ap (λ us. left_beside left (words_of_all us)) (drop_all i ts past) ∙ (fitted left 0 (omega arith) ∙ ap Some (omega arith))
