-- Laws of going up from a class by numbers that fall: the steps after which it is cut off aren't met.
use Rattle.std.specs.Prelude.{ℕ, zero, suc, ◌≡◌, ◌<◌, ◌≤◌, true, List, [], ◌∷◌, ◌++◌, length, flat_map, Option, Some, None, option_to_list, ◌⊎◌}
use Rattle.std.specs.Option.{option_or}
use Rattle.std.proofs.Common.{refl, sym, ap, ◌∙◌, inl, inr, ⊎_elim, arith}
use Rattle.std.proofs.lemmas.Option.{slice_get_past}
use Rattle.dv_defs.specs.Images.{Image}
use Rattle.dv_defs.specs.First.{first_in}
use Rattle.dv_defs.specs.Pools.{parent_of, parent_at, walk}
use Rattle.dv_defs.specs.Order.{has_number, above, interfaces_of, with_parent}
use Rattle.dv_defs.specs.LookUp.{upward, interfaces_at, interfaces_first}
use Rattle.law_linking.specs.Stripped.{AreInRange}
use Rattle.law_linking.proofs.Reach.{number_first, number_later, number_cases}
use Rattle.law_linking.proofs.ReachPlaces.{place, IsAcyclic, place_bounded, place_rises}

-- ---- lists

pub has_left : (d : ℕ) (xs ys : List ℕ) → has_number d xs ≡ true → has_number d (xs ++ ys) ≡ true
has_left d [] ys h = absurd (cc)
has_left d (x ∷ xs) ys h =
    ⊎_elim (λ same. ap (λ n. has_number n (x ∷ xs ++ ys)) (sym same) ∙ number_first x (xs ++ ys)) (λ later. number_later d x (xs ++ ys) (has_left d xs ys later)) (number_cases d x xs h)

pub has_right : (d : ℕ) (xs ys : List ℕ) → has_number d ys ≡ true → has_number d (xs ++ ys) ≡ true
has_right d [] ys h = h
has_right d (x ∷ xs) ys h = number_later d x (xs ++ ys) (has_right d xs ys h)

pub has_cases : (d : ℕ) (xs ys : List ℕ) → has_number d (xs ++ ys) ≡ true → (has_number d xs ≡ true) ⊎ (has_number d ys ≡ true)
has_cases d [] ys h = inr h
has_cases d (x ∷ xs) ys h =
    ⊎_elim
    (λ same. inl (ap (λ n. has_number n (x ∷ xs)) (sym same) ∙ number_first x xs))
    (λ later. ⊎_elim (λ left. inl (number_later d x xs left)) (λ right. inr right) (has_cases d xs ys later))
    (number_cases d x (xs ++ ys) h)

pub has_in_flat : (g : ℕ → List ℕ) (d e : ℕ) (xs : List ℕ) → has_number e xs ≡ true → has_number d (g e) ≡ true → has_number d (flat_map g xs) ≡ true
has_in_flat g d e [] there h = absurd (cc)
has_in_flat g d e (x ∷ xs) there h =
    ⊎_elim
    (λ same. has_left d (g x) (flat_map g xs) (ap (λ n. has_number d (g n)) same ∙ h))
    (λ later. has_right d (g x) (flat_map g xs) (has_in_flat g d e xs later h))
    (number_cases e x xs there)

-- what follows from each of the lists in which a number stands
pub flat_gives : {Y : Type 0} (g : ℕ → List ℕ) (d : ℕ) (xs : List ℕ) → ((e : ℕ) → has_number e xs ≡ true → has_number d (g e) ≡ true → Y) → has_number d (flat_map g xs) ≡ true → Y
flat_gives g d [] gives h = absurd (cc)
flat_gives g d (x ∷ xs) gives h =
    ⊎_elim
    (λ left. gives x (number_first x xs) left)
    (λ right. flat_gives g d xs (λ e there has. gives e (number_later e x xs there) has) right)
    (has_cases d (g x) (flat_map g xs) h)

pub flat_same : (f g : ℕ → List ℕ) (xs : List ℕ) → ((d : ℕ) → has_number d xs ≡ true → f d ≡ g d) → flat_map f xs ≡ flat_map g xs
flat_same f g [] same = refl
flat_same f g (x ∷ xs) same =
    ap (λ ys. ys ++ flat_map f xs) (same x (number_first x xs)) ∙ ap (λ ys. g x ++ ys) (flat_same f g xs (λ d there. same d (number_later d x xs there)))

or_assoc : {Y : Type 0} (o p q : Option Y) → option_or (option_or o p) q ≡ option_or o (option_or p q)
or_assoc None p q = refl
or_assoc (Some y) p q = refl

pub first_in_append : {Y : Type 0} (f : ℕ → Option Y) (xs ys : List ℕ) → first_in f (xs ++ ys) ≡ option_or (first_in f xs) (first_in f ys)
first_in_append f [] ys = refl
first_in_append f (x ∷ xs) ys = ap (option_or (f x)) (first_in_append f xs ys) ∙ sym (or_assoc (f x) (first_in f xs) (first_in f ys))

-- the first of lists the firsts of which are the same
pub first_in_flat : {Y : Type 0} (f : ℕ → Option Y) (g h : ℕ → List ℕ) (xs : List ℕ) → ((d : ℕ) → has_number d xs ≡ true → first_in f (g d) ≡ first_in f (h d)) → first_in f (flat_map g xs) ≡ first_in f (flat_map h xs)
first_in_flat f g h [] same = refl
first_in_flat f g h (x ∷ xs) same =
    first_in_append f (g x) (flat_map g xs) ∙
    ap (λ o. option_or o (first_in f (flat_map g xs))) (same x (number_first x xs)) ∙
    ap (option_or (first_in f (h x))) (first_in_flat f g h xs (λ d there. same d (number_later d x xs there))) ∙
    sym (first_in_append f (h x) (flat_map h xs))

-- ---- steps up

-- more steps than the number of a class give the same
pub upward_same : (up : ℕ → List ℕ) (rank : ℕ → ℕ) → ((c d : ℕ) → has_number d (up c) ≡ true → rank d < rank c) → (m n c : ℕ) → rank c < m → rank c < n → upward up m c ≡ upward up n c
upward_same up rank falls zero n c m_more n_more = absurd (omega arith)
upward_same up rank falls (suc m) zero c m_more n_more = absurd (omega arith)
upward_same up rank falls (suc m) (suc n) c m_more n_more =
    ap (λ xs. c ∷ xs)
    (flat_same (upward up m) (upward up n) (up c)
    (λ d there. let less = falls c d there in upward_same up rank falls m n d (omega arith) (omega arith)))

-- ---- those above a class

parent_above : (o : Option ℕ) (d : ℕ) (cs : List ℕ) → o ≡ Some d → has_number d (with_parent o cs) ≡ true
parent_above None d cs is = absurd (cc)
parent_above (Some p) d cs is = let same : p ≡ d = cc in rw same (number_first d cs)

interface_above : (o : Option ℕ) (d : ℕ) (cs : List ℕ) → has_number d cs ≡ true → has_number d (with_parent o cs) ≡ true
interface_above None d cs there = there
interface_above (Some p) d cs there = number_later d p cs there

either_above : (o : Option ℕ) (d : ℕ) (cs : List ℕ) → has_number d (with_parent o cs) ≡ true → (o ≡ Some d) ⊎ (has_number d cs ≡ true)
either_above None d cs there = inr there
either_above (Some p) d cs there = ⊎_elim (λ same. inl (ap Some same)) (λ later. inr later) (number_cases d p cs there)

listed : (o : Option ℕ) (d : ℕ) → has_number d (option_to_list o) ≡ true → o ≡ Some d
listed None d there = absurd (cc)
listed (Some p) d there = ⊎_elim (λ same. ap Some same) (λ later. absurd (cc)) (number_cases d p [] there)

pub parent_is_above : (image : Image) (c d : ℕ) → parent_at image c ≡ Some d → has_number d (above image c) ≡ true
parent_is_above image c d is = parent_above (parent_at image c) d (interfaces_at image c) is

pub interface_is_above : (image : Image) (c d : ℕ) → has_number d (interfaces_at image c) ≡ true → has_number d (above image c) ≡ true
interface_is_above image c d there = interface_above (parent_at image c) d (interfaces_at image c) there

pub above_is : (image : Image) (c d : ℕ) → has_number d (above image c) ≡ true → (parent_at image c ≡ Some d) ⊎ (has_number d (interfaces_at image c) ≡ true)
above_is image c d there = either_above (parent_at image c) d (interfaces_at image c) there

first_is_above : (image : Image) (c d : ℕ) → has_number d (interfaces_first image c) ≡ true → has_number d (above image c) ≡ true
first_is_above image c d there =
    ⊎_elim
    (λ left. interface_is_above image c d left)
    (λ right. parent_is_above image c d (listed (parent_at image c) d right))
    (has_cases d (interfaces_at image c) (option_to_list (parent_at image c)) there)

-- one step more from a class in range gives the same
module _ (image : Image) (range : AreInRange image.classes) (acyclic : IsAcyclic image) where
  pub interfaces_stand : (c : ℕ) → c < length image.classes → upward (interfaces_at image) (suc (length image.classes)) c ≡ upward (interfaces_at image) (length image.classes) c
  interfaces_stand c within =
      let low = place_bounded image acyclic c within in
      upward_same (interfaces_at image) (place image) (λ e d there. place_rises image range acyclic e d (interface_is_above image e d there))
      (suc (length image.classes)) (length image.classes) c (omega arith) low

  pub classes_stand : (c : ℕ) → c < length image.classes → upward (interfaces_first image) (suc (length image.classes)) c ≡ upward (interfaces_first image) (length image.classes) c
  classes_stand c within =
      let low = place_bounded image acyclic c within in
      upward_same (interfaces_first image) (place image) (λ e d there. place_rises image range acyclic e d (first_is_above image e d there))
      (suc (length image.classes)) (length image.classes) c (omega arith) low

walk_same_from : (image : Image) (m n : ℕ) (o : Option ℕ) → ((p : ℕ) → o ≡ Some p → walk image m (Some p) ≡ walk image n (Some p)) → walk image m None ≡ walk image n None → walk image m o ≡ walk image n o
walk_same_from image m n None some none = none
walk_same_from image m n (Some p) some none = some p refl

walk_top : (image : Image) (n : ℕ) → walk image n None ≡ []
walk_top image zero = refl
walk_top image (suc n) = refl

pub walk_same : (image : Image) → AreInRange image.classes → IsAcyclic image → (m n c : ℕ) → place image c < m → place image c < n → walk image m (Some c) ≡ walk image n (Some c)
walk_same image range acyclic zero n c m_more n_more = absurd (omega arith)
walk_same image range acyclic (suc m) zero c m_more n_more = absurd (omega arith)
walk_same image range acyclic (suc m) (suc n) c m_more n_more =
    ap (λ xs. c ∷ xs)
    (walk_same_from image m n (parent_at image c)
    (λ p is. let less = place_rises image range acyclic c p (parent_is_above image c p is) in walk_same image range acyclic m n p (omega arith) (omega arith))
    (walk_top image m ∙ sym (walk_top image n)))

-- ---- numbers that are no class's

pub parent_beyond : (image : Image) (c : ℕ) → length image.classes ≤ c → parent_at image c ≡ None
parent_beyond image c beyond = ap parent_of (slice_get_past image.classes c beyond)

pub interfaces_beyond : (image : Image) (c : ℕ) → length image.classes ≤ c → interfaces_at image c ≡ []
interfaces_beyond image c beyond = ap interfaces_of (slice_get_past image.classes c beyond)

pub above_beyond : (image : Image) (c : ℕ) → length image.classes ≤ c → above image c ≡ []
above_beyond image c beyond = ap (λ o. with_parent (parent_of o) (interfaces_of o)) (slice_get_past image.classes c beyond)

pub walk_alone : (image : Image) (n c : ℕ) → 0 < n → parent_at image c ≡ None → walk image n (Some c) ≡ c ∷ []
walk_alone image zero c some none = absurd (omega arith)
walk_alone image (suc n) c some none = ap (λ o. c ∷ walk image n o) none ∙ ap (λ xs. c ∷ xs) (walk_top image n)

pub upward_alone : (up : ℕ → List ℕ) (n c : ℕ) → 0 < n → up c ≡ [] → upward up n c ≡ c ∷ []
upward_alone up zero c some none = absurd (omega arith)
upward_alone up (suc n) c some none = ap (λ xs. c ∷ flat_map (upward up n) xs) none
