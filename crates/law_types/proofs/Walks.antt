-- Walks from a class to the classes above it, and what stands above Object.
use Rattle.std.proofs.Common.{◌≡◌, ◌⊎◌, inl, inr, ℕ, zero, suc, ◌+◌, ◌<◌, ◌≤◌, List, [], ◌∷◌, length, Bool, true, false, Option, Some, None, refl, sym, ap, subst, arith}
use Rattle.std.specs.Prelude.{slice_get, nat_eq, bytes_eq}
use Rattle.std.proofs.lemmas.Bool.{eqb-true, eq-eqb}
use Rattle.dv_defs.specs.Images.{Image}
use Rattle.dv_defs.specs.declared.image.ClassInfo.{ClassInfo}
use Rattle.dv_defs.specs.Names.{object_name}
use Rattle.dv_defs.specs.Pools.{find_from, class_named, parent_at, declared_name, name_at, walk}
use Rattle.dv_defs.specs.Order.{has_number, with_parent, interfaces_of, above, any_of, reaches, extends, implements}
use Rattle.law_types.specs.Hierarchy.{IsHierarchy}
use Rattle.law_types.proofs.Facts.{no, either, by_first, by_second}
use Rattle.law_types.proofs.Equal.{names_are}

pub has_head : (d : ℕ) (cs : List ℕ) → has_number d (d ∷ cs) ≡ true
has_head d cs = by_first (nat_eq d d) (has_number d cs) (eq-eqb d d refl)

-- ---- tests over lists

pub any_is : (test : ℕ → Bool) (cs : List ℕ) → any_of test cs ≡ true → (p : ℕ) × (has_number p cs ≡ true) × (test p ≡ true)
any_is test [] e = no e
any_is test (c ∷ cs) e = elim (either (test c) (any_of test cs) e) [ inl here ↦ (c, has_head c cs, here) | inr later ↦ (let (p, there, good) = any_is test cs later in (p, by_second (nat_eq c p) (has_number p cs) there, good)) ]

pub is_any : (test : ℕ → Bool) (cs : List ℕ) (p : ℕ) → has_number p cs ≡ true → test p ≡ true → any_of test cs ≡ true
is_any test [] p e good = no e
is_any test (c ∷ cs) p e good = elim (either (nat_eq c p) (has_number p cs) e) [ inl here ↦ by_first (test c) (any_of test cs) (subst (λ (x : ℕ). test x ≡ true) (sym (eqb-true c p here)) good) | inr later ↦ by_second (test c) (any_of test cs) (is_any test cs p later good) ]

-- ---- names

pub record IsFound (cs : List ClassInfo) (k : ℕ) (name : List ℕ) (c : ℕ) : Type 0 where
  pub place : ℕ
  pub after : c ≡ k + place
  pub inside : place < length cs
  pub named : declared_name (slice_get cs place) ≡ name

found_later : (x : ClassInfo) (cs : List ClassInfo) (k : ℕ) (name : List ℕ) (c : ℕ) → IsFound cs (suc k) name c → IsFound (x ∷ cs) k name c
found_later x cs k name c f = record { place = suc f.place; after = omega (arith, f.after); inside = omega (arith, f.inside); named = f.named }

pub find_is : (cs : List ClassInfo) (k : ℕ) (name : List ℕ) (c : ℕ) → find_from cs k name ≡ Some c → IsFound cs k name c
find_is [] k name c e = absurd (cc)
find_is (x ∷ cs) k name c e = by_name (find_is cs (suc k) name c) (bytes_eq x.def.name name) refl e
  where
    by_name : (find_from cs (suc k) name ≡ Some c → IsFound cs (suc k) name c) → (b : Bool) → bytes_eq x.def.name name ≡ b → elim b [ true ↦ Some k | false ↦ find_from cs (suc k) name ] ≡ Some c → IsFound (x ∷ cs) k name c
    by_name later true h g = record { place = 0; after = (let q : k ≡ c = cc in omega (arith, q)); inside = omega arith; named = names_are x.def.name name h }
    by_name later false h g = found_later x cs k name c (later g)

pub named_inside : (image : Image) (name : List ℕ) (c : ℕ) → class_named image name ≡ Some c → c < length image.classes
unfolding class_named
named_inside image name c e = let f = find_is image.classes 0 name c e in omega (arith, f.after, f.inside)

pub named_is : (image : Image) (name : List ℕ) (c : ℕ) → class_named image name ≡ Some c → name_at image c ≡ name
unfolding class_named
named_is image name c e =
    let f = find_is image.classes 0 name c e in
    let q : c ≡ f.place = omega (arith, f.after) in
    subst (λ (x : ℕ). name_at image x ≡ name) (sym q) f.named

-- ---- by superclasses

parent_above : (o : Option ℕ) (cs : List ℕ) (p : ℕ) → o ≡ Some p → has_number p (with_parent o cs) ≡ true
parent_above None cs p e = absurd (cc)
parent_above (Some q) cs p e = by_first (nat_eq q p) (has_number p cs) (eq-eqb q p (cc))

pub is_above : (image : Image) (c p : ℕ) → parent_at image c ≡ Some p → has_number p (above image c) ≡ true
is_above image c p e = parent_above (parent_at image c) (interfaces_of (slice_get image.classes c)) p e

-- what stands above a class is its superclass or one of its superinterfaces
pub above_is : (o : Option ℕ) (cs : List ℕ) (d : ℕ) → has_number d (with_parent o cs) ≡ true → (o ≡ Some d) ⊎ (has_number d cs ≡ true)
above_is None cs d e = inr e
above_is (Some q) cs d e = elim (either (nat_eq q d) (has_number d cs) e) [ inl here ↦ inl (ap Some (eqb-true q d here)) | inr later ↦ inr later ]

abbrev pub up : Image → ℕ → ℕ → ℕ → Bool
up image n d c = has_number d (walk image n (Some c))

-- the first step of a walk
step_of : (image : Image) (n d : ℕ) (o : Option ℕ) → has_number d (walk image n o) ≡ true → (p : ℕ) × (o ≡ Some p) × (up image n d p ≡ true)
step_of image zero d o e = no e
step_of image (suc n) d None e = no e
step_of image (suc n) d (Some p) e = (p, refl, e)

of_step : (image : Image) (n d p : ℕ) (o : Option ℕ) → o ≡ Some p → up image n d p ≡ true → has_number d (walk image n o) ≡ true
of_step image n d p o e u = subst (λ (x : Option ℕ). has_number d (walk image n x) ≡ true) (sym e) u

pub up_here : (image : Image) (n c : ℕ) → up image (suc n) c c ≡ true
up_here image n c = has_head c (walk image n (parent_at image c))

pub up_later : (image : Image) (n d c p : ℕ) → parent_at image c ≡ Some p → up image n d p ≡ true → up image (suc n) d c ≡ true
up_later image n d c p e u = by_second (nat_eq c d) (has_number d (walk image n (parent_at image c))) (of_step image n d p (parent_at image c) e u)

pub up_is : (image : Image) (n d c : ℕ) → up image (suc n) d c ≡ true → (c ≡ d) ⊎ ((p : ℕ) × (parent_at image c ≡ Some p) × (up image n d p ≡ true))
up_is image n d c e = elim (either (nat_eq c d) (has_number d (walk image n (parent_at image c))) e) [ inl here ↦ inl (eqb-true c d here) | inr later ↦ inr (step_of image n d (parent_at image c) later) ]

-- ---- by superclasses and superinterfaces

pub reach_here : (image : Image) (n c : ℕ) → reaches image (suc n) c c ≡ true
reach_here image n c = by_first (nat_eq c c) (any_of (reaches image n c) (above image c)) (eq-eqb c c refl)

pub reach_later : (image : Image) (n d c p : ℕ) → has_number p (above image c) ≡ true → reaches image n d p ≡ true → reaches image (suc n) d c ≡ true
reach_later image n d c p a r = by_second (nat_eq c d) (any_of (reaches image n d) (above image c)) (is_any (reaches image n d) (above image c) p a r)

pub reach_is : (image : Image) (n d c : ℕ) → reaches image (suc n) d c ≡ true → (c ≡ d) ⊎ ((p : ℕ) × (has_number p (above image c) ≡ true) × (reaches image n d p ≡ true))
reach_is image n d c e = elim (either (nat_eq c d) (any_of (reaches image n d) (above image c)) e) [ inl here ↦ inl (eqb-true c d here) | inr later ↦ inr (any_is (reaches image n d) (above image c) later) ]

pub up_reaches : (image : Image) (n d c : ℕ) → up image n d c ≡ true → reaches image n d c ≡ true
up_reaches image zero d c e = no e
up_reaches image (suc n) d c e = elim (up_is image n d c e) [ inl here ↦ subst (λ (x : ℕ). reaches image (suc n) x c ≡ true) here (reach_here image n c) | inr step ↦ reach_later image n d c step.0 (is_above image c step.0 step.1) (up_reaches image n d step.0 step.2) ]

-- ---- in a hierarchy

module _ (image : Image) (h : IsHierarchy image) where
  -- a walk with fuel above the place of its begin is whole
  pub refuel_up : (n k d c : ℕ) → up image n d c ≡ true → h.place c < k → up image k d c ≡ true
  refuel_up zero k d c e l = no e
  refuel_up (suc n) zero d c e l = absurd (omega arith)
  refuel_up (suc n) (suc k) d c e l = elim (up_is image n d c e) [
    | inl here ↦ subst (λ (x : ℕ). up image (suc k) x c ≡ true) here (up_here image k c)
    | inr step ↦ (let below = h.rises c step.0 (is_above image c step.0 step.1) in up_later image k d c step.0 step.1 (refuel_up n k d step.0 step.2 (omega arith)))
  ]

  pub up_trans : (n m k c d e : ℕ) → up image n d c ≡ true → up image m e d ≡ true → h.place c < k → up image k e c ≡ true
  up_trans zero m k c d e x y l = no x
  up_trans (suc n) m zero c d e x y l = absurd (omega arith)
  up_trans (suc n) m (suc k) c d e x y l = elim (up_is image n d c x) [
    | inl here ↦ refuel_up m (suc k) e c (subst (λ (z : ℕ). up image m e z ≡ true) (sym here) y) l
    | inr step ↦ (let below = h.rises c step.0 (is_above image c step.0 step.1) in up_later image k e c step.0 step.1 (up_trans n m k step.0 d e step.2 y (omega arith)))
  ]

  pub refuel_reach : (n k d c : ℕ) → reaches image n d c ≡ true → h.place c < k → reaches image k d c ≡ true
  refuel_reach zero k d c e l = no e
  refuel_reach (suc n) zero d c e l = absurd (omega arith)
  refuel_reach (suc n) (suc k) d c e l = elim (reach_is image n d c e) [
    | inl here ↦ subst (λ (x : ℕ). reaches image (suc k) x c ≡ true) here (reach_here image k c)
    | inr step ↦ (let below = h.rises c step.0 step.1 in reach_later image k d c step.0 step.1 (refuel_reach n k d step.0 step.2 (omega arith)))
  ]

  pub reach_trans : (n m k c d e : ℕ) → reaches image n d c ≡ true → reaches image m e d ≡ true → h.place c < k → reaches image k e c ≡ true
  reach_trans zero m k c d e x y l = no x
  reach_trans (suc n) m zero c d e x y l = absurd (omega arith)
  reach_trans (suc n) m (suc k) c d e x y l = elim (reach_is image n d c x) [
    | inl here ↦ refuel_reach m (suc k) e c (subst (λ (z : ℕ). reaches image m e z ≡ true) (sym here) y) l
    | inr step ↦ (let below = h.rises c step.0 step.1 in reach_later image k e c step.0 step.1 (reach_trans n m k step.0 d e step.2 y (omega arith)))
  ]

  -- what is above stands before
  pub reach_place : (n d c : ℕ) → reaches image n d c ≡ true → (c ≡ d) ⊎ (h.place d < h.place c)
  reach_place zero d c e = no e
  reach_place (suc n) d c e = elim (reach_is image n d c e) [
    | inl here ↦ inl here
    | inr step ↦ inr (let below = h.rises c step.0 step.1 in elim (reach_place n d step.0 step.2) [ inl same ↦ (let q : h.place step.0 ≡ h.place d = ap h.place same in omega (arith, q, below)) | inr less ↦ omega (arith, less, below) ])
  ]

  -- each class is under one without a superclass
  record IsRoot (c : ℕ) : Type 0 where
    root : ℕ
    inside : root < length image.classes
    alone : parent_at image root ≡ None
    before : h.place root ≤ h.place c

  higher : (c p : ℕ) → h.place p < h.place c → IsRoot p → IsRoot c
  higher c p l r = record { root = r.root; inside = r.inside; alone = r.alone; before = omega (arith, l, r.before) }

  root_from : (n c : ℕ) → h.place c < n → c < length image.classes → IsRoot c
  root_from zero c l i = absurd (omega arith)
  root_from (suc n) c l i = by_parent (root_from n) (parent_at image c) refl
    where
      by_parent : ((p : ℕ) → h.place p < n → p < length image.classes → IsRoot p) → (o : Option ℕ) → parent_at image c ≡ o → IsRoot c
      by_parent above None e = record { root = c; inside = i; alone = e; before = omega arith }
      by_parent above (Some p) e = let a = is_above image c p e in let below = h.rises c p a in higher c p below (above p (omega (arith, below, l)) (h.inside c p a))

  -- Object stands before each class
  pub object_first : (o c : ℕ) → class_named image object_name ≡ Some o → c < length image.classes → h.place o ≤ h.place c
  object_first o c e i =
      let r = root_from (suc (h.place c)) c (omega arith) i in
      let named : name_at image r.root ≡ object_name = h.root r.root r.inside r.alone in
      let found : class_named image object_name ≡ Some r.root = subst (λ (x : List ℕ). class_named image x ≡ Some r.root) named (h.once r.root r.inside) in
      let q : r.root ≡ o = cc in
      let p : h.place r.root ≡ h.place o = ap h.place q in
      omega (arith, p, r.before)

  pub object_reaches : (n o d : ℕ) → class_named image object_name ≡ Some o → reaches image n d o ≡ true → o ≡ d
  object_reaches zero o d e r = no r
  object_reaches (suc n) o d e r = elim (reach_is image n d o r) [
    | inl here ↦ here
    | inr step ↦ absurd (let first = object_first o step.0 e (h.inside o step.0 step.1) in let below = h.rises o step.0 step.1 in omega (arith, first, below))
  ]

  -- ---- the two tests

  bound : (c : ℕ) → c < length image.classes → h.place c < suc (length image.classes)
  bound c i = let b = h.bounded c i in omega (arith, b)

  pub extends_same : (c : ℕ) → c < length image.classes → extends image c c ≡ true
  extends_same c i = refuel_up (suc 0) (length image.classes) c c (up_here image 0 c) (h.bounded c i)

  pub extends_trans : (c d e : ℕ) → c < length image.classes → extends image c d ≡ true → extends image d e ≡ true → extends image c e ≡ true
  extends_trans c d e i x y = up_trans (length image.classes) (length image.classes) (length image.classes) c d e x y (h.bounded c i)

  pub implements_trans : (c d e : ℕ) → c < length image.classes → implements image c d ≡ true → implements image d e ≡ true → implements image c e ≡ true
  implements_trans c d e i x y = reach_trans (suc (length image.classes)) (suc (length image.classes)) (suc (length image.classes)) c d e x y (bound c i)

  pub extends_implements : (c d : ℕ) → c < length image.classes → extends image c d ≡ true → implements image c d ≡ true
  extends_implements c d i x = refuel_reach (length image.classes) (suc (length image.classes)) d c (up_reaches image (length image.classes) d c x) (bound c i)

  pub object_extends : (o d : ℕ) → class_named image object_name ≡ Some o → extends image o d ≡ true → o ≡ d
  object_extends o d e x = object_reaches (length image.classes) o d e (up_reaches image (length image.classes) d o x)

  pub object_implements : (o d : ℕ) → class_named image object_name ≡ Some o → implements image o d ≡ true → o ≡ d
  object_implements o d e x = object_reaches (suc (length image.classes)) o d e x

  pub extends_near : (c d : ℕ) → extends image c d ≡ true → (c ≡ d) ⊎ (h.place d < h.place c)
  extends_near c d x = reach_place (length image.classes) d c (up_reaches image (length image.classes) d c x)
