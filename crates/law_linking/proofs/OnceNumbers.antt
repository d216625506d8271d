-- Laws of numbers of which each is kept once, where it stands first.
use Rattle.std.specs.Prelude.{ℕ, ◌≡◌, Bool, true, false, not, List, [], ◌∷◌, cond, filter, Option, Some, None, nat_eq}
use Rattle.std.specs.Option.{option_or}
use Rattle.std.proofs.Common.{refl, sym, ap, ◌∙◌}
use Rattle.std.proofs.lemmas.Bool.{eqb-true}
use Rattle.dv_defs.specs.First.{first_in}
use Rattle.dv_defs.specs.Order.{has_number}
use Rattle.dv_defs.specs.LookUp.{once}

-- a number that gives nothing may be left out
first_in_without : {Y : Type 0} (f : ℕ → Option Y) (c : ℕ) (xs : List ℕ) → f c ≡ None → first_in f (filter (λ d. not (nat_eq c d)) xs) ≡ first_in f xs
first_in_without f c [] none = refl
first_in_without f c (x ∷ xs) none = by (nat_eq c x) refl (first_in_without f c xs none)
  where
    by : (b : Bool) → nat_eq c x ≡ b → first_in f (filter (λ d. not (nat_eq c d)) xs) ≡ first_in f xs → first_in f (cond (not b) (x ∷ filter (λ d. not (nat_eq c d)) xs) (filter (λ d. not (nat_eq c d)) xs)) ≡ option_or (f x) (first_in f xs)
    by true e rest = rest ∙ sym (ap (λ o. option_or o (first_in f xs)) (sym (ap f (eqb-true c x e)) ∙ none))
    by false e rest = ap (option_or (f x)) rest

or_same : {Y : Type 0} (o p q : Option Y) → (o ≡ None → p ≡ q) → option_or o p ≡ option_or o q
or_same None p q same = same refl
or_same (Some y) p q same = refl

pub first_in_once : {Y : Type 0} (f : ℕ → Option Y) (xs : List ℕ) → first_in f (once xs) ≡ first_in f xs
first_in_once f [] = refl
first_in_once f (c ∷ cs) =
    let rest : first_in f (once cs) ≡ first_in f cs = first_in_once f cs in
    or_same (f c) (first_in f (filter (λ d. not (nat_eq c d)) (once cs))) (first_in f cs) (λ none. first_in_without f c (once cs) none ∙ rest)

abbrev pub or_else : Bool → Bool → Bool
or_else b c = elim b [ true ↦ true | false ↦ c ]

-- another number may be left out
has_without : (d c : ℕ) (xs : List ℕ) → nat_eq c d ≡ false → has_number d (filter (λ e. not (nat_eq c e)) xs) ≡ has_number d xs
has_without d c [] other = refl
has_without d c (x ∷ xs) other = by (nat_eq c x) refl (has_without d c xs other)
  where
    by : (b : Bool) → nat_eq c x ≡ b → has_number d (filter (λ e. not (nat_eq c e)) xs) ≡ has_number d xs → has_number d (cond (not b) (x ∷ filter (λ e. not (nat_eq c e)) xs) (filter (λ e. not (nat_eq c e)) xs)) ≡ or_else (nat_eq x d) (has_number d xs)
    by true e rest = rest ∙ sym (ap (λ b. or_else b (has_number d xs)) (sym (ap (λ n. nat_eq n d) (eqb-true c x e)) ∙ other))
    by false e rest = ap (or_else (nat_eq x d)) rest

pub has_once : (d : ℕ) (xs : List ℕ) → has_number d (once xs) ≡ has_number d xs
has_once d [] = refl
has_once d (c ∷ cs) = by (nat_eq c d) refl (has_once d cs)
  where
    by : (b : Bool) → nat_eq c d ≡ b → has_number d (once cs) ≡ has_number d cs → or_else b (has_number d (filter (λ e. not (nat_eq c e)) (once cs))) ≡ or_else b (has_number d cs)
    by true e rest = refl
    by false e rest = has_without d c (once cs) e ∙ rest
