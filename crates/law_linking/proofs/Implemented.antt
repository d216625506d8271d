-- What a class is under: the classes of the walk up, and the interfaces above them.
use Rattle.std.specs.Prelude.{ℕ, zero, suc, ◌≡◌, ◌<◌, Bool, true, false, ◌||◌, [], ◌∷◌, length, flat_map, Option, Some, None, ◌⊎◌}
use Rattle.std.proofs.Common.{refl, sym, ap, subst, ◌∙◌, inl, inr, ⊎_elim, arith}
use Rattle.dv_defs.specs.Images.{Image}
use Rattle.dv_defs.specs.Pools.{parent_at, walk, supers, is_interface}
use Rattle.dv_defs.specs.Order.{has_number, above, reaches, implements, extends}
use Rattle.dv_defs.specs.LookUp.{upward, interfaces_at, interfaces_above, superinterfaces}
use Rattle.law_linking.specs.Ordered.{IsOrdered}
use Rattle.law_linking.proofs.Reach.{above_in, number_first, number_later, number_cases, reaches_here, reaches_up, reaches_gives, reaches_bounded}
use Rattle.law_linking.proofs.ReachPlaces.{place, place_bounded, place_rises}
use Rattle.law_linking.proofs.Upward.{has_right, has_cases, has_in_flat, flat_gives, interfaces_stand, walk_same, parent_is_above, interface_is_above, above_is}

same_truth : (a b : Bool) → (a ≡ true → b ≡ true) → (b ≡ true → a ≡ true) → a ≡ b
same_truth true b to back = sym (to refl)
same_truth false true to back = back refl
same_truth false false to back = refl

or_left : (a b : Bool) → a ≡ true → (a || b) ≡ true
or_left true b h = refl
or_left false b h = absurd (cc)

or_right : (a b : Bool) → b ≡ true → (a || b) ≡ true
or_right true b h = refl
or_right false b h = h

or_gives : {Y : Type 0} (a b : Bool) → (a ≡ true → Y) → (b ≡ true → Y) → (a || b) ≡ true → Y
or_gives true b left right h = left refl
or_gives false b left right h = right h

-- ---- what is there is reached

-- what stands on a walk up is reached
walk_reaches : (image : Image) (m c d : ℕ) → has_number d (walk image m (Some c)) ≡ true → reaches image m d c ≡ true
walk_reaches image zero c d h = absurd (cc)
walk_reaches image (suc m) c d h =
    ⊎_elim
    (λ same. subst (λ t. reaches image (suc m) t c ≡ true) same (reaches_here image m c))
    (λ later. by (parent_at image c) m (λ p is. reaches_up image m d c p (parent_is_above image c p is)) (λ p. walk_reaches image m p d) later)
    (number_cases d c (walk image m (parent_at image c)) h)
  where
    by : (o : Option ℕ) (m : ℕ) → ((p : ℕ) → o ≡ Some p → reaches image m d p ≡ true → reaches image (suc m) d c ≡ true) → ((p : ℕ) → has_number d (walk image m (Some p)) ≡ true → reaches image m d p ≡ true) → has_number d (walk image m o) ≡ true → reaches image (suc m) d c ≡ true
    by None zero up rest h = absurd (cc)
    by None (suc m) up rest h = absurd (cc)
    by (Some p) m up rest h = up p refl (rest p h)

-- and what stands above an interface
upward_reaches : (image : Image) (n d e : ℕ) → has_number d (upward (interfaces_at image) n e) ≡ true → reaches image n d e ≡ true
upward_reaches image zero d e h = absurd (cc)
upward_reaches image (suc n) d e h =
    ⊎_elim
    (λ same. subst (λ t. reaches image (suc n) t e ≡ true) same (reaches_here image n e))
    (λ later. flat_gives (upward (interfaces_at image) n) d (interfaces_at image e)
    (λ b there has. reaches_up image n d e b (interface_is_above image e b there) (upward_reaches image n d b has)) later)
    (number_cases d e (flat_map (upward (interfaces_at image) n) (interfaces_at image e)) h)

module _ (image : Image) (ordered : IsOrdered image) where
  extended_is_under : (c d : ℕ) → c < length image.classes → extends image c d ≡ true → implements image c d ≡ true
  extended_is_under c d within h = reaches_bounded image ordered.range (length image.classes) d c within (walk_reaches image (length image.classes) c d h)

  -- the interfaces above the classes of a walk up
  interfaces_under : (m c d : ℕ) → c < length image.classes → has_number d (flat_map (interfaces_above image) (walk image m (Some c))) ≡ true → implements image c d ≡ true
  interfaces_under zero c d within h = absurd (cc)
  interfaces_under (suc m) c d within h =
      ⊎_elim
      (λ own. flat_gives (upward (interfaces_at image) (length image.classes)) d (interfaces_at image c)
      (λ e there has. reaches_up image (length image.classes) d c e (interface_is_above image c e there) (upward_reaches image (length image.classes) d e has)) own)
      (λ later. by (parent_at image c) m
      (λ p is under. reaches_bounded image ordered.range (suc (suc (length image.classes))) d c within (reaches_up image (suc (length image.classes)) d c p (parent_is_above image c p is) under))
      (λ p is. interfaces_under m p d (above_in image ordered.range c p (parent_is_above image c p is))) later)
      (has_cases d (interfaces_above image c) (flat_map (interfaces_above image) (walk image m (parent_at image c))) h)
    where
      by : (o : Option ℕ) (m : ℕ) → ((p : ℕ) → o ≡ Some p → implements image p d ≡ true → implements image c d ≡ true) → ((p : ℕ) → o ≡ Some p → has_number d (flat_map (interfaces_above image) (walk image m (Some p))) ≡ true → implements image p d ≡ true) → has_number d (flat_map (interfaces_above image) (walk image m o)) ≡ true → implements image c d ≡ true
      by None zero up rest h = absurd (cc)
      by None (suc m) up rest h = absurd (cc)
      by (Some p) m up rest h = up p refl (rest p refl h)

  -- ---- what is reached is there

  -- a walk up ends in Object
  ends_in_object : (m c : ℕ) → c < length image.classes → place image c < m → has_number ordered.object (walk image m (Some c)) ≡ true
  ends_in_object zero c within more = absurd (omega arith)
  ends_in_object (suc m) c within more =
      by (parent_at image c) refl m
      (λ p is.
      let there : has_number p (above image c) ≡ true = parent_is_above image c p is in
      let less = place_rises image ordered.range ordered.acyclic c p there in
      ends_in_object m p (above_in image ordered.range c p there) (omega arith))
    where
      by : (o : Option ℕ) → parent_at image c ≡ o → (m : ℕ) → ((p : ℕ) → parent_at image c ≡ Some p → has_number ordered.object (walk image m (Some p)) ≡ true) → has_number ordered.object (c ∷ walk image m o) ≡ true
      by None is m rest = subst (λ t. has_number t (c ∷ walk image m None) ≡ true) (ordered.parents c within is) (number_first c (walk image m None))
      by (Some p) is m rest = number_later ordered.object c (walk image m (Some p)) (rest p is)

  object_reaches : (n d : ℕ) → reaches image n d ordered.object ≡ true → ordered.object ≡ d
  object_reaches zero d h = absurd (cc)
  object_reaches (suc n) d h =
      reaches_gives image n d ordered.object (λ same. same)
      (λ e there more.
      ⊎_elim
      (λ parent. absurd (let none = ordered.object_parent in cc))
      (λ interface. absurd (let none : has_number e [] ≡ true = subst (λ cs. has_number e cs ≡ true) ordered.object_interfaces interface in cc))
      (above_is image ordered.object e there))
      h

  -- from an interface, Object or an interface above
  interface_reaches : (n d e : ℕ) → is_interface image e ≡ true → reaches image n d e ≡ true → (has_number d (upward (interfaces_at image) n e) ≡ true) ⊎ (ordered.object ≡ d)
  interface_reaches zero d e is h = absurd (cc)
  interface_reaches (suc n) d e is h =
      reaches_gives image n d e
      (λ same. inl (subst (λ t. has_number t (upward (interfaces_at image) (suc n) e) ≡ true) same (number_first e (flat_map (upward (interfaces_at image) n) (interfaces_at image e)))))
      (λ b there more.
      ⊎_elim
      (λ parent. inr (object_reaches n d (let same : b ≡ ordered.object = is_parent b parent in subst (λ t. reaches image n d t ≡ true) same more)))
      (λ interface.
      ⊎_elim
      (λ has. inl (number_later d e (flat_map (upward (interfaces_at image) n) (interfaces_at image e)) (has_in_flat (upward (interfaces_at image) n) d b (interfaces_at image e) interface has)))
      (λ top. inr top)
      (interface_reaches n d b (ordered.interfaces e b interface) more))
      (above_is image e b there))
      h
    where
      is_parent : (b : ℕ) → parent_at image e ≡ Some b → b ≡ ordered.object
      is_parent b parent = let top : parent_at image e ≡ Some ordered.object = ordered.of_interfaces e is in cc

  -- on the walk up or above it
  abbrev IsThere : ℕ → ℕ → Type 0
  IsThere c d = (extends image c d || has_number d (superinterfaces image c)) ≡ true

  supers_up : (c p : ℕ) → c < length image.classes → parent_at image c ≡ Some p → supers image c ≡ c ∷ supers image p
  supers_up c p within is =
      let there : has_number p (above image c) ≡ true = parent_is_above image c p is in
      let low = place_bounded image ordered.acyclic c within in
      let inner = place_bounded image ordered.acyclic p (above_in image ordered.range c p there) in
      walk_same image ordered.range ordered.acyclic (length image.classes) (suc (length image.classes)) c low (omega arith) ∙
      ap (λ o. c ∷ walk image (length image.classes) o) is

  supers_begin : (c : ℕ) → c < length image.classes → supers image c ≡ c ∷ walk image (length image.classes) (parent_at image c)
  supers_begin c within =
      let low = place_bounded image ordered.acyclic c within in
      walk_same image ordered.range ordered.acyclic (length image.classes) (suc (length image.classes)) c low (omega arith)

  there_from_parent : (c p d : ℕ) → c < length image.classes → parent_at image c ≡ Some p → IsThere p d → IsThere c d
  there_from_parent c p d within is there =
      subst (λ cs. (has_number d cs || has_number d (flat_map (interfaces_above image) cs)) ≡ true) (sym (supers_up c p within is))
      (or_gives (extends image p d) (has_number d (superinterfaces image p))
      (λ left. or_left (has_number d (c ∷ supers image p)) (has_number d (flat_map (interfaces_above image) (c ∷ supers image p))) (number_later d c (supers image p) left))
      (λ right. or_right (has_number d (c ∷ supers image p)) (has_number d (flat_map (interfaces_above image) (c ∷ supers image p))) (has_right d (interfaces_above image c) (superinterfaces image p) right))
      there)

  there_above : (c d : ℕ) → c < length image.classes → has_number d (interfaces_above image c) ≡ true → IsThere c d
  there_above c d within has =
      or_right (extends image c d) (has_number d (superinterfaces image c))
      (has_in_flat (interfaces_above image) d c (supers image c)
      (subst (λ cs. has_number c cs ≡ true) (sym (supers_begin c within)) (number_first c (walk image (length image.classes) (parent_at image c))))
      has)

  reached_is_there : (n d c : ℕ) → c < length image.classes → reaches image n d c ≡ true → IsThere c d
  reached_is_there zero d c within h = absurd (cc)
  reached_is_there (suc n) d c within h =
      reaches_gives image n d c
      (λ same. or_left (extends image c d) (has_number d (superinterfaces image c))
      (subst (λ t. has_number t (supers image c) ≡ true) same
      (subst (λ cs. has_number c cs ≡ true) (sym (supers_begin c within)) (number_first c (walk image (length image.classes) (parent_at image c))))))
      (λ e there more.
      let inside : e < length image.classes = above_in image ordered.range c e there in
      ⊎_elim
      (λ parent. there_from_parent c e d within parent (reached_is_there n d e inside more))
      (λ interface.
      ⊎_elim
      (λ has. there_above c d within
      (has_in_flat (upward (interfaces_at image) (length image.classes)) d e (interfaces_at image c) interface
      (subst (λ cs. has_number d cs ≡ true) (interfaces_stand image ordered.range ordered.acyclic e inside) has)))
      (λ top. or_left (extends image c d) (has_number d (superinterfaces image c))
      (subst (λ t. has_number t (supers image c) ≡ true) top
      (ends_in_object (length image.classes) c within (place_bounded image ordered.acyclic c within))))
      (interface_reaches (suc (length image.classes)) d e (ordered.interfaces c e interface) (reaches_bounded image ordered.range n d e inside more)))
      (above_is image c e there))
      h

-- a class is under those of the walk up, and the interfaces above these
pub implements_is : (image : Image) → IsOrdered image → (c d : ℕ) → c < length image.classes → implements image c d ≡ (extends image c d || has_number d (superinterfaces image c))
implements_is image ordered c d within =
    same_truth (implements image c d) (extends image c d || has_number d (superinterfaces image c))
    (reached_is_there image ordered (suc (length image.classes)) d c within)
    (or_gives (extends image c d) (has_number d (superinterfaces image c))
    (extended_is_under image ordered c d within)
    (interfaces_under image ordered (length image.classes) c d within))
