-- Where no place is listed, no rule is broken.
use Rattle.std.specs.Prelude.{◌≡◌, ℕ, List, [], ◌∷◌, ◌++◌, Bool, true, false}
use Rattle.std.proofs.Common.{refl}
use Rattle.dv_defs.specs.declared.faults.Rule.{Rule}
use Rattle.dv_typing.specs.Statics.{unless}
use Rattle.dv_typing.specs.Accepting.{Place, is_before, inserted, sorted, places, place_unless}
use Rattle.law_types.proofs.Demanded.{only_rule}

pub none_left : {X : Type 0} (xs ys : List X) → xs ++ ys ≡ [] → xs ≡ []
none_left [] ys e = refl
none_left (x ∷ xs) ys e = absurd (cc)

pub none_right : {X : Type 0} (xs ys : List X) → xs ++ ys ≡ [] → ys ≡ []
none_right [] ys e = e
none_right (x ∷ xs) ys e = absurd (cc)

abbrev put_by : Place → Place → List Place → Bool → Bool → List Place
put_by p q qs b c = elim b [ true ↦ p ∷ q ∷ qs | false ↦ elim c [ true ↦ q ∷ inserted p qs | false ↦ q ∷ qs ] ]

kept : (p q : Place) (qs : List Place) (b c : Bool) → put_by p q qs b c ≡ [] → ⊥
kept p q qs true c e = cc
kept p q qs false true e = cc
kept p q qs false false e = cc

some_inserted : (p : Place) (qs : List Place) → inserted p qs ≡ [] → ⊥
some_inserted p [] e = cc
some_inserted p (q ∷ qs) e = kept p q qs (is_before p q) (is_before q p) e

pub none_sorted : (ps : List Place) → sorted ps ≡ [] → ps ≡ []
none_sorted [] e = refl
none_sorted (p ∷ ps) e = absurd (some_inserted p (sorted ps) e)

pub no_rules : (at : ℕ) (rules : List Rule) → places at rules ≡ [] → rules ≡ []
no_rules at [] e = refl
no_rules at (r ∷ rs) e = absurd (cc)

pub no_place : (b : Bool) (at : ℕ) (r : Rule) → place_unless b at r ≡ [] → b ≡ true
no_place b at r e = only_rule b r (no_rules at (unless b r) e)
