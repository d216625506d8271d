-- In what state a class begins: by its own initialiser, by what is initialised before it, and by its superclass.
use Rattle.std.proofs.Common.{◌≡◌, ◌<◌, ◌-◌, ◌+◌, ⊎_elim, ℕ, zero, suc, Bool, true, false, ◌&&◌, List, [], ◌∷◌, ◌++◌, ◌≢◌, length, get_or, set, take, drop, Option, Some, None, refl, sym, ap, ◌∙◌, subst, arith}
use Rattle.std.specs.Prelude.{flat_map, is_none, map, nat_eq, option_to_list, if◌then◌else◌}
use Rattle.std.specs.List.{range_with_len}
use Rattle.std.proofs.Math.Seq.{take-append_seam}
use Rattle.std.proofs.lemmas.Bool.{eqb-true, eq-eqb}
use Rattle.std.proofs.lemmas.Grind.{flat_map-append, get_or-set_at}
use Rattle.std.proofs.lemmas.List.{get_or-set_other, length-set, map-append}
use Rattle.std.proofs.lemmas.List.FromFn.{map-range_with_len_more}
use Rattle.dv_defs.specs.declared.image.ClassInfo.{ClassInfo}
use Rattle.dv_defs.specs.Images.{Image}
use Rattle.dv_defs.specs.Linked.{IsImage}
use Rattle.dv_defs.specs.LookUp.{upward}
use Rattle.dv_defs.specs.Order.{has_number}
use Rattle.dv_defs.specs.Pools.{Method, initialiser, is_interface, parent_at}
use Rattle.dv_defs.specs.Prior.{prior_at}
use Rattle.dv_machine.specs.Classes.{Fresh, Ready}
use Rattle.dv_machine.specs.Opening.{first_states, is_born, none_initialised}
use Rattle.law_linking.proofs.OrderedImages.{image_ordered}
use Rattle.law_linking.proofs.Reach.{number_cases, number_first, number_later}
use Rattle.law_linking.proofs.ReachPlaces.{place, place_bounded}
use Rattle.law_linking.proofs.Upward.{upward_alone, upward_same}
use Rattle.dv_clinit.specs.declared.states.State.{State}
use Rattle.dv_clinit.specs.Births.{AreKnown, BeginsAsParent, IsKnown, first_state, parent_state}
use Rattle.dv_clinit.specs.States.{class_state, class_states}
use Rattle.dv_clinit.proofs.PriorLaws.{IsLower, interface_lower, interfaces_prior, none_before_interface, parent_lower, prior_lower, prior_of_class, prior_of_interface}

-- ---- lists of classes of which none declares an initialiser

none_append : (image : Image) (xs ys : List ℕ) → none_initialised image (xs ++ ys) ≡ (none_initialised image xs && none_initialised image ys)
none_append image [] ys = refl
none_append image (x ∷ xs) ys = by (is_none (initialiser image x)) (none_append image xs ys)
  where
    by : (b : Bool) → none_initialised image (xs ++ ys) ≡ (none_initialised image xs && none_initialised image ys) → (b && none_initialised image (xs ++ ys)) ≡ ((b && none_initialised image xs) && none_initialised image ys)
    by true rest = rest
    by false rest = refl

pub both_true : (a b : Bool) → (a && b) ≡ true → (a ≡ true) × (b ≡ true)
both_true true b both = (refl, both)
both_true false b both = absurd (cc)

left_false : (a b : Bool) → a ≡ false → (a && b) ≡ false
left_false true b fails = absurd (cc)
left_false false b fails = refl

right_false : (a b : Bool) → b ≡ false → (a && b) ≡ false
right_false true b fails = fails
right_false false b fails = refl

-- one of lists has a class that declares one
one_of_lists : (image : Image) (g : ℕ → List ℕ) (d : ℕ) (xs : List ℕ) → has_number d xs ≡ true → none_initialised image (g d) ≡ false → none_initialised image (flat_map g xs) ≡ false
one_of_lists image g d [] has fails = absurd (cc)
one_of_lists image g d (x ∷ xs) has fails =
    none_append image (g x) (flat_map g xs) ∙
    ⊎_elim
    (λ same. left_false (none_initialised image (g x)) (none_initialised image (flat_map g xs)) (ap (λ e. none_initialised image (g e)) same ∙ fails))
    (λ later. right_false (none_initialised image (g x)) (none_initialised image (flat_map g xs)) (one_of_lists image g d xs later fails))
    (number_cases d x xs has)

-- above classes before which nothing is initialised stand they themselves alone
alone : (image : Image) (n : ℕ) (xs : List ℕ) → ((d : ℕ) → has_number d xs ≡ true → (0 < n) × (prior_at image d ≡ [])) → none_initialised image (flat_map (upward (prior_at image) n) xs) ≡ none_initialised image xs
alone image n [] each = refl
alone image n (x ∷ xs) each =
    let here = each x (number_first x xs) in
    none_append image (upward (prior_at image) n x) (flat_map (upward (prior_at image) n) xs) ∙
    (ap (λ ds. none_initialised image ds && none_initialised image (flat_map (upward (prior_at image) n) xs)) (upward_alone (prior_at image) n x here.0 here.1) ∙
    (ap (λ b. (is_none (initialiser image x) && true) && b) (alone image n xs (λ d has. each d (number_later d x xs has))) ∙
    and_true (is_none (initialiser image x)) (none_initialised image xs)))
  where
    and_true : (a b : Bool) → ((a && true) && b) ≡ (a && b)
    and_true true b = refl
    and_true false b = refl

-- ---- one class

-- what is initialised before a class, again and again
abbrev all_before : Image → ℕ → List ℕ
all_before image c = flat_map (upward (prior_at image) (length image.classes - 1)) (prior_at image c)

born_by : (image : Image) (n c : ℕ) → 0 < n → none_initialised image (upward (prior_at image) n c) ≡ (is_none (initialiser image c) && none_initialised image (flat_map (upward (prior_at image) (n - 1)) (prior_at image c)))
born_by image zero c some = absurd (omega arith)
born_by image (suc m) c some =
    let less : suc m - 1 ≡ m = omega arith in
    rw less refl

-- a class is born initialised by its own initialiser and by those before it
born_of : (image : Image) (c : ℕ) → c < length image.classes → is_born image c ≡ (is_none (initialiser image c) && none_initialised image (all_before image c))
born_of image c within = born_by image (length image.classes) c (omega arith)

-- one without an initialiser by those before it
born_without_own : (image : Image) (c : ℕ) → c < length image.classes → initialiser image c ≡ None → is_born image c ≡ none_initialised image (all_before image c)
born_without_own image c within none =
    born_of image c within ∙ ap (λ o. is_none o && none_initialised image (all_before image c)) none

-- and one with an initialiser is fresh
pub fresh_with_own : (image : Image) (c : ℕ) (m : Method) → c < length image.classes → initialiser image c ≡ Some m → first_state image c ≡ Fresh
fresh_with_own image c m within own =
    let born : is_born image c ≡ false = born_of image c within ∙ ap (λ o. is_none o && none_initialised image (all_before image c)) own in
    ap (λ b. if b then Ready else Fresh) born

-- an interface without one is ready
pub ready_interface : (image : Image) (c : ℕ) → c < length image.classes → is_interface image c ≡ true → initialiser image c ≡ None → first_state image c ≡ Ready
ready_interface image c within interface none =
    let born : is_born image c ≡ true =
    born_without_own image c within none ∙
    ap (λ ds. none_initialised image (flat_map (upward (prior_at image) (length image.classes - 1)) ds)) (prior_of_interface image c interface) in
    ap (λ b. if b then Ready else Fresh) born

module _ (image : Image) (is : IsImage image) where
  -- so many steps up do
  same_above : (c d : ℕ) → c < length image.classes → IsLower image is c d → upward (prior_at image) (length image.classes - 1) d ≡ upward (prior_at image) (length image.classes) d
  same_above c d within lower =
      let ordered = image_ordered image is in
      let low : place image c < length image.classes = place_bounded image ordered.acyclic c within in
      upward_same (prior_at image) (place image) (λ e f has. (prior_lower image is e f has).before) (length image.classes - 1) (length image.classes) d (omega (arith, lower.before)) (omega (arith, lower.before))

  born_unless_fresh : (c : ℕ) → (first_state image c ≡ Fresh → ⊥) → is_born image c ≡ true
  born_unless_fresh c other = by (is_born image c) refl
    where
      by : (b : Bool) → is_born image c ≡ b → b ≡ true
      by true born = refl
      by false born = absurd (other (ap (λ b. if b then Ready else Fresh) born))

  unborn_if_fresh : (c : ℕ) → first_state image c ≡ Fresh → is_born image c ≡ false
  unborn_if_fresh c fresh = by (is_born image c) fresh
    where
      by : (b : Bool) → (if b then Ready else Fresh) ≡ Fresh → b ≡ false
      by true born = absurd (cc)
      by false born = refl

  -- a class before which a fresh one is initialised is fresh
  pub fresh_before : (c d : ℕ) → c < length image.classes → has_number d (prior_at image c) ≡ true → first_state image d ≡ Fresh → first_state image c ≡ Fresh
  fresh_before c d within has fresh =
      let lower = prior_lower image is c d has in
      let above : none_initialised image (upward (prior_at image) (length image.classes - 1) d) ≡ false =
      ap (none_initialised image) (same_above c d within lower) ∙ unborn_if_fresh d fresh in
      let born : is_born image c ≡ false =
      born_of image c within ∙
      right_false (is_none (initialiser image c)) (none_initialised image (all_before image c))
      (one_of_lists image (upward (prior_at image) (length image.classes - 1)) d (prior_at image c) has above) in
      ap (λ b. if b then Ready else Fresh) born

  -- a class that isn't fresh declares no initialiser
  pub none_unless_fresh : (c : ℕ) → c < length image.classes → (first_state image c ≡ Fresh → ⊥) → initialiser image c ≡ None
  none_unless_fresh c within other =
      by (initialiser image c) (both_true (is_none (initialiser image c)) (none_initialised image (all_before image c)) (sym (born_of image c within) ∙ born_unless_fresh c other)).0
    where
      by : (o : Option Method) → is_none o ≡ true → o ≡ None
      by None none = refl
      by (Some m) none = absurd (cc)

  -- what stands before a superclass decides as the superclass does
  by_parent : (c : ℕ) → c < length image.classes → (o : Option ℕ) → parent_at image c ≡ o
      → (if none_initialised image (flat_map (upward (prior_at image) (length image.classes - 1)) (option_to_list o)) && true then Ready else Fresh) ≡ parent_state image o
  by_parent c within None parent = refl
  by_parent c within (Some p) parent =
      let g : ℕ → List ℕ = upward (prior_at image) (length image.classes - 1) in
      ap (λ b. if b then Ready else Fresh)
      (ap (λ b. b && true) (none_append image (g p) []) ∙
      (trues (none_initialised image (g p)) ∙
      ap (none_initialised image) (same_above c p within (parent_lower image is c p parent))))
    where
      trues : (b : Bool) → ((b && true) && true) ≡ b
      trues true = refl
      trues false = refl

  -- a class begins as its superclass where neither it nor what is initialised right before it declares an initialiser
  pub as_parent : (c : ℕ) → c < length image.classes → is_interface image c ≡ false → initialiser image c ≡ None → none_initialised image (prior_at image c) ≡ true → BeginsAsParent image c
  as_parent c within class none_own none_before =
      let g : ℕ → List ℕ = upward (prior_at image) (length image.classes - 1) in
      let ps : List ℕ = option_to_list (parent_at image c) in
      let low : place image c < length image.classes = place_bounded image (image_ordered image is).acyclic c within in
      let interfaces : none_initialised image (interfaces_prior image c) ≡ true =
      (both_true (none_initialised image ps) (none_initialised image (interfaces_prior image c))
      (sym (none_append image ps (interfaces_prior image c)) ∙ (ap (none_initialised image) (sym (prior_of_class image c class)) ∙ none_before))).1 in
      let alike : none_initialised image (flat_map g (interfaces_prior image c)) ≡ none_initialised image (interfaces_prior image c) =
      alone image (length image.classes - 1) (interfaces_prior image c)
      (λ d has. (omega (arith, (interface_lower image is c d has).before, low), none_before_interface image is c d has)) in
      let born : is_born image c ≡ (none_initialised image (flat_map g ps) && true) =
      born_without_own image c within none_own ∙
      (ap (λ ds. none_initialised image (flat_map g ds)) (prior_of_class image c class) ∙
      (ap (none_initialised image) (flat_map-append g ps (interfaces_prior image c)) ∙
      (none_append image (flat_map g ps) (flat_map g (interfaces_prior image c)) ∙
      ap (λ b. none_initialised image (flat_map g ps) && b) (alike ∙ interfaces)))) in
      ap (λ b. if b then Ready else Fresh) born ∙ by_parent c within (parent_at image c) refl

-- ---- all classes

pub states_by_class : (image : Image) (cs : List ClassInfo) (k : ℕ) → first_states image cs k ≡ map (first_state image) (range_with_len k (length cs))
states_by_class image [] k = refl
states_by_class image (c ∷ cs) k =
    let more : k + 1 ≡ suc k = omega arith in
    rw more (ap (λ states. first_state image k ∷ states) (states_by_class image cs (suc k)))

pub one_more : (image : Image) (states : List State) (s : State) (k : ℕ) → class_states states ≡ map (first_state image) (range_with_len 0 k) → class_state s ≡ first_state image k
    → class_states (states ++ s ∷ []) ≡ map (first_state image) (range_with_len 0 (k + 1))
one_more image states s k so_far here =
    map-append class_state states (s ∷ []) ∙
    (ap (λ xs. xs ++ class_state s ∷ []) so_far ∙
    (ap (λ x. map (first_state image) (range_with_len 0 k) ++ x ∷ []) here ∙
    sym (map-range_with_len_more (first_state image) 0 k k (omega arith))))

pub all_states : (image : Image) (states : List State) (k : ℕ) → class_states states ≡ map (first_state image) (range_with_len 0 k) → k ≡ length image.classes
    → class_states states ≡ first_states image image.classes 0
all_states image states k so_far all =
    so_far ∙ (ap (λ n. map (first_state image) (range_with_len 0 n)) all ∙ sym (states_by_class image image.classes 0))

-- ---- what is known

module _ (image : Image) (IsOpen : ℕ → Type 0) (known : List (Option State)) (are : AreKnown image IsOpen known) where
  -- what is written down is known
  pub known_more : (c : ℕ) (s : State) → class_state s ≡ first_state image c → AreKnown image IsOpen (set known c (Some s))
  known_more c s is =
      record {
        linked = are.linked;
        count = length-set known c (Some s) ∙ are.count;
        at = λ k d within. by (nat_eq k c) k refl d (omega (arith, within, length-set known c (Some s)));
      }
    where
      by : (b : Bool) (k : ℕ) → nat_eq k c ≡ b → (d : Option State) → k < length known → IsKnown image IsOpen k (get_or (set known c (Some s)) k d)
      by true k test d within =
          let same : k ≡ c = eqb-true k c test in
          let here : get_or (set known c (Some s)) k d ≡ Some s = get_or-set_at known c k (Some s) d same (omega (arith, same)) in
          subst (IsKnown image IsOpen k) (sym here) (is ∙ ap (first_state image) (sym same))
      by false k test d within =
          let other : k ≢ c = λ same. (let equal : nat_eq k c ≡ true = eq-eqb k c same in cc) in
          subst (IsKnown image IsOpen k) (sym (get_or-set_other known c k (Some s) d other)) (are.at k d within)

  -- a class of which nothing is known is open
  pub unknown_open : (c : ℕ) → c < length known → get_or known c None ≡ None → IsOpen c
  unknown_open c within unknown = subst (IsKnown image IsOpen c) unknown (are.at c None within)

module _ (image : Image) (known : List (Option State)) (are : AreKnown image (BeginsAsParent image) known) where
  pub climb_inside : (c p : ℕ) → parent_at image c ≡ Some p → p < length known
  climb_inside c p parent = omega (arith, (parent_lower image are.linked c p parent).inside, are.count)

  pub climb_before : (c p : ℕ) → parent_at image c ≡ Some p → place image p < place image c
  climb_before c p parent = (parent_lower image are.linked c p parent).before

  pub climb_alike : (c p : ℕ) → c < length known → get_or known c None ≡ None → parent_at image c ≡ Some p → first_state image c ≡ first_state image p
  climb_alike c p within unknown parent = unknown_open image (BeginsAsParent image) known are c within unknown ∙ ap (parent_state image) parent

  pub climb_top : (c : ℕ) → c < length known → get_or known c None ≡ None → parent_at image c ≡ None → first_state image c ≡ Ready
  climb_top c within unknown top = unknown_open image (BeginsAsParent image) known are c within unknown ∙ ap (parent_state image) top

-- a vector that was lent as a slice
pub lent_back : (image : Image) (IsOpen : ℕ → Type 0) (known items : List (Option State)) (n : ℕ) → n ≡ length known → AreKnown image IsOpen known → AreKnown image IsOpen (take n (known ++ drop (length known) items))
lent_back image IsOpen known items n long are =
    subst (AreKnown image IsOpen) (sym (ap (λ k. take k (known ++ drop (length known) items)) long ∙ take-append_seam known (drop (length known) items))) are
