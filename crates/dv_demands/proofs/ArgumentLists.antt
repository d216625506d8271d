-- Arguments and elements one by one.
use Rattle.std.proofs.Common.{◌≡◌, ℕ, zero, suc, ◌+◌, Bool, true, false, List, [], ◌∷◌, drop, Some, None, refl, ap, sym, arith, ◌∙◌}
use Rattle.std.specs.Prelude.{slice_get, nat_eq}
use Rattle.dv_defs.specs.declared.names.Ty.{Ty}
use Rattle.dv_defs.specs.declared.faults.Rule.{Rule}
use Rattle.dv_defs.specs.declared.faults.Rule.TheVariants as rule
use Rattle.dv_typing.specs.Demands.{Demand, first, demand, long, single_for, args_for, each_for}
use Rattle.dv_defs.specs.Images.{Image}
use Rattle.dv_typing.specs.RegTypes.{Types}
use Rattle.dv_defs.specs.Types.{is_long, words_of}
use Rattle.dv_demands.specs.Arguments.{long_arg_for}

first_alone : (x : Demand) → first x None ≡ x
first_alone None = refl
first_alone (Some r) = refl

first_again : (x y : Demand) → first (first x None) y ≡ first x y
first_again None y = refl
first_again (Some r) y = refl

first_twice : (x y z : Demand) → first (first x (first y None)) z ≡ first x (first y z)
first_twice None None z = refl
first_twice None (Some r) z = refl
first_twice (Some r) y z = refl

-- the first argument's demand, by whether it is a long
abbrev arg_by : Image → Types → Ty → List Ty → ℕ → List ℕ → Bool → Demand
arg_by image ts p ps k ks b =
    elim b as (λ _. Demand) [
      | true ↦ elim ks as (λ _. Demand) [
        | [] ↦ Some (rule.S 15)
        | j ∷ js ↦ first (long ts k) (first (demand (nat_eq j (suc k)) (rule.V 3)) (args_for image ts ps js))
      ]
      | false ↦ first (single_for image ts k p) (args_for image ts ps ks)
    ]

abbrev words_by : Bool → ℕ
words_by b = elim b as (λ _. ℕ) [ true ↦ 2 | false ↦ 1 ]

split_by : (image : Image) (ts : Types) (p : Ty) (ps : List Ty) (k : ℕ) (ks : List ℕ) (b : Bool) → arg_by image ts p ps k ks b ≡ first (arg_by image ts p [] k ks b) (args_for image ts ps (drop (words_by b) (k ∷ ks)))
split_by image ts p ps k [] true = refl
split_by image ts p ps k (j ∷ js) true = sym (first_twice (long ts k) (demand (nat_eq j (suc k)) (rule.V 3)) (args_for image ts ps js))
split_by image ts p ps k ks false = sym (first_again (single_for image ts k p) (args_for image ts ps ks))

split : (image : Image) (ts : Types) (p : Ty) (ps : List Ty) (ks : List ℕ) → args_for image ts (p ∷ ps) ks ≡ first (args_for image ts (p ∷ []) ks) (args_for image ts ps (drop (words_of p) ks))
split image ts p ps [] = refl
split image ts p ps (k ∷ ks) = split_by image ts p ps k ks (is_long p)

single_by : (image : Image) (ts : Types) (p : Ty) (k : ℕ) (ks : List ℕ) (b : Bool) → b ≡ false → arg_by image ts p [] k ks b ≡ single_for image ts k p
single_by image ts p k ks true e = absurd (cc)
single_by image ts p k ks false e = first_alone (single_for image ts k p)

long_by : (image : Image) (ts : Types) (p : Ty) (k : ℕ) (ks : List ℕ) (b : Bool) → b ≡ true → arg_by image ts p [] k ks b ≡ long_arg_for ts k (slice_get ks 0)
long_by image ts p k ks false e = absurd (cc)
long_by image ts p k [] true e = refl
long_by image ts p k (j ∷ js) true e = ap (first (long ts k)) (first_alone (demand (nat_eq j (suc k)) (rule.V 3)))

pub no_arg : (image : Image) (ts : Types) (p : Ty) (ks : List ℕ) (k : ℕ) → slice_get ks k ≡ None → args_for image ts (p ∷ []) (drop k ks) ≡ Some (rule.S 15)
no_arg image ts p [] zero e = refl
no_arg image ts p [] (suc k) e = refl
no_arg image ts p (x ∷ xs) zero e = absurd (cc)
no_arg image ts p (x ∷ xs) (suc k) e = no_arg image ts p xs k e

pub single_arg : (image : Image) (ts : Types) (p : Ty) (ks : List ℕ) (k r : ℕ) → slice_get ks k ≡ Some r → is_long p ≡ false → args_for image ts (p ∷ []) (drop k ks) ≡ single_for image ts r p
single_arg image ts p [] zero r e f = absurd (cc)
single_arg image ts p [] (suc k) r e f = absurd (cc)
single_arg image ts p (x ∷ xs) zero r e f = let same : x ≡ r = cc in single_by image ts p x xs (is_long p) f ∙ ap (λ (j : ℕ). single_for image ts j p) same
single_arg image ts p (x ∷ xs) (suc k) r e f = single_arg image ts p xs k r e f

pub long_arg : (image : Image) (ts : Types) (p : Ty) (ks : List ℕ) (k r : ℕ) → slice_get ks k ≡ Some r → is_long p ≡ true → args_for image ts (p ∷ []) (drop k ks) ≡ long_arg_for ts r (slice_get ks (suc k))
long_arg image ts p [] zero r e f = absurd (cc)
long_arg image ts p [] (suc k) r e f = absurd (cc)
long_arg image ts p (x ∷ xs) zero r e f = let same : x ≡ r = cc in long_by image ts p x xs (is_long p) f ∙ ap (λ (j : ℕ). long_arg_for ts j (slice_get xs 0)) same
long_arg image ts p (x ∷ xs) (suc k) r e f = long_arg image ts p xs k r e f

drop_none : (n : ℕ) → drop n (let none : List ℕ = [] in none) ≡ []
drop_none zero = refl
drop_none (suc n) = refl

drop_again : (w k : ℕ) (ks : List ℕ) → drop w (drop k ks) ≡ drop (k + w) ks
drop_again w zero ks = ap (λ (n : ℕ). drop n ks) (omega arith)
drop_again w (suc k) [] = drop_none w ∙ sym (drop_none (suc k + w))
drop_again w (suc k) (x ∷ xs) = let more : suc (k + w) ≡ suc k + w = omega arith in drop_again w k xs ∙ ap (λ (n : ℕ). drop n (x ∷ xs)) more

first_known : (x y r : Demand) → x ≡ r → first x y ≡ first r y
first_known x y r e = ap (λ (z : Demand). first z y) e

pub next_arg : (image : Image) (ts : Types) (p : Ty) (ps : List Ty) (ks : List ℕ) (i k : ℕ) → drop i ps ≡ p ∷ drop (suc i) ps → args_for image ts (p ∷ []) (drop k ks) ≡ None → args_for image ts (drop i ps) (drop k ks) ≡ args_for image ts (drop (suc i) ps) (drop (k + words_of p) ks)
next_arg image ts p ps ks i k here good =
    ap (λ (qs : List Ty). args_for image ts qs (drop k ks)) here ∙
    split image ts p (drop (suc i) ps) (drop k ks) ∙
    first_known _ _ None good ∙
    ap (args_for image ts (drop (suc i) ps)) (drop_again (words_of p) k ks)

pub broken_arg : (image : Image) (ts : Types) (p : Ty) (ps : List Ty) (ks : List ℕ) (i k : ℕ) (r : Rule) → drop i ps ≡ p ∷ drop (suc i) ps → args_for image ts (p ∷ []) (drop k ks) ≡ Some r → args_for image ts (drop i ps) (drop k ks) ≡ Some r
broken_arg image ts p ps ks i k r here bad =
    ap (λ (qs : List Ty). args_for image ts qs (drop k ks)) here ∙
    split image ts p (drop (suc i) ps) (drop k ks) ∙
    first_known _ _ (Some r) bad

pub no_element : (image : Image) (ts : Types) (t : Ty) (ks : List ℕ) (k : ℕ) → slice_get ks k ≡ None → each_for image ts (drop k ks) t ≡ None
no_element image ts t [] zero e = refl
no_element image ts t [] (suc k) e = refl
no_element image ts t (x ∷ xs) zero e = absurd (cc)
no_element image ts t (x ∷ xs) (suc k) e = no_element image ts t xs k e

pub one_element : (image : Image) (ts : Types) (t : Ty) (ks : List ℕ) (k r : ℕ) → slice_get ks k ≡ Some r → each_for image ts (drop k ks) t ≡ first (single_for image ts r t) (each_for image ts (drop (suc k) ks) t)
one_element image ts t [] zero r e = absurd (cc)
one_element image ts t [] (suc k) r e = absurd (cc)
one_element image ts t (x ∷ xs) zero r e = let same : x ≡ r = cc in ap (λ (j : ℕ). first (single_for image ts j t) (each_for image ts xs t)) same
one_element image ts t (x ∷ xs) (suc k) r e = one_element image ts t xs k r e

pub next_element : (image : Image) (ts : Types) (t : Ty) (ks : List ℕ) (k r : ℕ) → slice_get ks k ≡ Some r → single_for image ts r t ≡ None → each_for image ts (drop k ks) t ≡ each_for image ts (drop (suc k) ks) t
next_element image ts t ks k r e good = one_element image ts t ks k r e ∙ first_known _ _ None good

pub broken_element : (image : Image) (ts : Types) (t : Ty) (ks : List ℕ) (k r : ℕ) (broken : Rule) → slice_get ks k ≡ Some r → single_for image ts r t ≡ Some broken → each_for image ts (drop k ks) t ≡ Some broken
broken_element image ts t ks k r broken e bad = one_element image ts t ks k r e ∙ first_known _ _ (Some broken) bad
