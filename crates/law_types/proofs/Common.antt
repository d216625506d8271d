-- The nearest common superclass of two classes is above both and under each type that is.
use Rattle.std.proofs.Common.{◌≡◌, ◌⊎◌, inl, inr, ℕ, zero, suc, ◌<◌, List, [], ◌∷◌, length, Bool, true, false, ◌&&◌, Option, Some, None, refl, sym, ap, ◌∙◌, subst, arith}
use Rattle.std.specs.Prelude.{nat_eq, bytes_eq}
use Rattle.dv_defs.specs.declared.names.Base.TheVariants as base
use Rattle.dv_defs.specs.declared.names.Ty.{Ty}
use Rattle.dv_defs.specs.Images.{Image}
use Rattle.dv_defs.specs.Names.{object_name}
use Rattle.dv_defs.specs.Types.{of_class, is_class_base, is_reference}
use Rattle.dv_defs.specs.Pools.{class_named, class_type, name_at, parent_at, walk, supers}
use Rattle.dv_defs.specs.Order.{has_number, class_under, sub, extends}
use Rattle.dv_defs.specs.Common.{object_type, first_common, common_classes}
use Rattle.law_types.specs.Hierarchy.{IsHierarchy}
use Rattle.law_types.proofs.Facts.{no, by_second}
use Rattle.law_types.proofs.Walks.{has_head, up, up_is, is_above, named_inside, extends_same, refuel_up}
use Rattle.law_types.proofs.Equal.{ty_from, of_one_name}
use Rattle.law_types.proofs.Types.{type_is, is_type, flat_under, is_under, object_above}

-- ---- the first of some classes among others

-- Object, or a class of both lists
abbrev IsOfBoth : Image → List ℕ → List ℕ → Ty → Type 0
IsOfBoth image cs ds t = (t ≡ object_type) ⊎ ((x : ℕ) × (t ≡ class_type image x) × (has_number x cs ≡ true) × (has_number x ds ≡ true))

common_next : (image : Image) (c : ℕ) (cs ds : List ℕ) (b : Bool) → has_number c ds ≡ b → IsOfBoth image cs ds (first_common image cs ds) → IsOfBoth image (c ∷ cs) ds (elim b [ true ↦ class_type image c | false ↦ first_common image cs ds ])
common_next image c cs ds true e later = inr (c, refl, has_head c cs, e)
common_next image c cs ds false e (inl top) = inl top
common_next image c cs ds false e (inr r) = inr (r.0, r.1, by_second (nat_eq c r.0) (has_number r.0 cs) r.2, r.3)

common_is : (image : Image) (cs ds : List ℕ) → IsOfBoth image cs ds (first_common image cs ds)
common_is image [] ds = inl refl
common_is image (c ∷ cs) ds = common_next image c cs ds (has_number c ds) refl (common_is image cs ds)

-- ---- class types

pub is_of_class : (a : Ty) (name : List ℕ) → a.dims ≡ 0 → a.base ≡ base.Class name → a ≡ of_class name
is_of_class a name flat e = ty_from a (of_class name) flat e

-- a type that is above both and under each other that is
pub record IsCommon (image : Image) (a b c : Ty) : Type 0 where
  pub reference : is_reference c ≡ true
  pub first : sub image a c ≡ true
  pub second : sub image b c ≡ true
  pub least : (e : Ty) → sub image a e ≡ true → sub image b e ≡ true → sub image c e ≡ true

-- a class type above another, both of classes that are there
record IsClassAbove (image : Image) (low_name : List ℕ) (e : Ty) : Type 0 where
  name : List ℕ
  is_class : e ≡ of_class name
  low : ℕ
  has_low : class_named image low_name ≡ Some low
  high : ℕ
  has_high : class_named image name ≡ Some high
  above : extends image low high ≡ true

-- Object, the type itself where its class isn't there, or such a type
abbrev IsAboveClass : Image → List ℕ → Ty → Type 0
IsAboveClass image name e = ((e ≡ object_type) ⊎ ((e ≡ of_class name) × (class_named image name ≡ None))) ⊎ IsClassAbove image name e

module _ (image : Image) (h : IsHierarchy image) where
  up_inside : (n d c : ℕ) → up image n d c ≡ true → c < length image.classes → d < length image.classes
  up_inside zero d c u l = no u
  up_inside (suc n) d c u l = elim (up_is image n d c u) [
    | inl same ↦ subst (λ (z : ℕ). z < length image.classes) same l
    | inr step ↦ up_inside n d step.0 step.2 (h.inside c step.0 (is_above image c step.0 step.1))
  ]

  -- a class from which a common one is still above
  abbrev IsNear : ℕ → Ty → Type 0
  IsNear e t = (x : ℕ) × (m : ℕ) × (t ≡ class_type image x) × (up image m e x ≡ true) × (x < length image.classes)

  from_parent : (n p e : ℕ) (ds : List ℕ) (o : Option ℕ) → o ≡ Some p → IsNear e (first_common image (walk image n (Some p)) ds) → IsNear e (first_common image (walk image n o) ds)
  from_parent n p e ds o q r = subst (λ (z : Option ℕ). IsNear e (first_common image (walk image n z) ds)) (sym q) r

  near_next : (n c e : ℕ) (ds : List ℕ) (b : Bool) → has_number c ds ≡ b → up image (suc n) e c ≡ true → has_number e ds ≡ true → c < length image.classes → ((p : ℕ) → up image n e p ≡ true → p < length image.classes → IsNear e (first_common image (walk image n (Some p)) ds)) → IsNear e (elim b [ true ↦ class_type image c | false ↦ first_common image (walk image n (parent_at image c)) ds ])
  near_next n c e ds true q u i l later = (c, suc n, refl, u, l)
  near_next n c e ds false q u i l later = elim (up_is image n e c u) [
    | inl same ↦ absurd (let r : has_number c ds ≡ true = subst (λ (z : ℕ). has_number z ds ≡ true) (sym same) i in cc)
    | inr step ↦ from_parent n step.0 e ds (parent_at image c) step.1 (later step.0 step.2 (h.inside c step.0 (is_above image c step.0 step.1)))
  ]

  near : (n c e : ℕ) (ds : List ℕ) → up image n e c ≡ true → has_number e ds ≡ true → c < length image.classes → IsNear e (first_common image (walk image n (Some c)) ds)
  near zero c e ds u i l = no u
  near (suc n) c e ds u i l = near_next n c e ds (has_number c ds) refl u i l (λ p v k. near n p e ds v i k)

  pub under_object : (a e : Ty) → is_reference a ≡ true → e ≡ object_type → sub image a e ≡ true
  unfolding sub
  under_object a e r q = subst (λ (z : Ty). sub image a z ≡ true) (sym q) (object_above image (extends image) a object_type r refl refl)

  itself : (name : List ℕ) (e : Ty) (o : Option ℕ) → class_named image name ≡ o → e ≡ of_class name → IsAboveClass image name e
  itself name e None q same = inl (inr (same, q))
  itself name e (Some c) q same = inr (record { name = name; is_class = same; low = c; has_low = q; high = c; has_high = q; above = extends_same image h c (named_inside image name c q) })

  class_above : (name : List ℕ) (e : Ty) → sub image (of_class name) e ≡ true → IsAboveClass image name e
  unfolding sub
  class_above name e u = elim (type_is image (extends image) (of_class name) e u) [
    | inl same ↦ itself name e (class_named image name) refl (sym same)
    | inr v ↦ (let flat : e.dims ≡ 0 = omega (arith, v.dims) in
        let none : v.more ≡ 0 = omega (arith, v.dims) in
        elim (flat_under image (extends image) v.more (base.Class name) v.name none v.tested) [
          | inl top ↦ inl (inl (ty_from e object_type flat (v.is_class ∙ ap base.Class top)))
          | inr w ↦ (let n : name ≡ w.name = (let q : base.Class name ≡ base.Class w.name = w.is_class in cc) in
              inr (record { name = v.name; is_class = is_of_class e v.name flat v.is_class; low = w.low; has_low = subst (λ (z : List ℕ). class_named image z ≡ Some w.low) (sym n) w.has_low; high = w.high; has_high = w.has_high; above = w.tested }))
        ])
  ]

  class_under_class : (name other : List ℕ) (c d : ℕ) → class_named image name ≡ Some c → class_named image other ≡ Some d → extends image c d ≡ true → sub image (of_class name) (of_class other) ≡ true
  unfolding sub
  class_under_class name other c d p q u = is_type image (extends image) (of_class name) (of_class other) (record {
    name = other;
    is_class = refl;
    more = 0;
    dims = refl;
    tested = by_second (is_class_base (base.Class name) && bytes_eq other object_name) (class_under image (extends image) (base.Class name) other) (is_under image (extends image) name other c d p q u);
  })

  -- ---- two classes that are there

  common_below : (e : ℕ) (t : Ty) (name : List ℕ) → IsNear e t → class_named image name ≡ Some e → sub image t (of_class name) ≡ true
  common_below e t name (x, m, same, u, l) has =
      subst (λ (z : Ty). sub image z (of_class name) ≡ true) (sym same)
      (class_under_class (name_at image x) name x e (h.once x l) has (refuel_up image h m (length image.classes) e x u (h.bounded x l)))

  above_common : (a : List ℕ) (c x : ℕ) (t : Ty) → class_named image a ≡ Some c → t ≡ class_type image x → extends image c x ≡ true → sub image (of_class a) t ≡ true
  above_common a c x t p same u =
      let l = up_inside (length image.classes) x c u (named_inside image a c p) in
      subst (λ (z : Ty). sub image (of_class a) z ≡ true) (sym same) (class_under_class a (name_at image x) c x p (h.once x l) u)

  -- what is above both classes
  both_above : (a b : List ℕ) (c d : ℕ) (e t : Ty) → class_named image a ≡ Some c → class_named image b ≡ Some d → t ≡ first_common image (supers image c) (supers image d) → IsClassAbove image a e → IsClassAbove image b e → sub image t e ≡ true
  both_above a b c d e t p q same x y =
      let names : x.name ≡ y.name = of_one_name x.name y.name (sym x.is_class ∙ y.is_class) in
      let low : x.low ≡ c = (let r = x.has_low in cc) in
      let other : y.low ≡ d = (let r = y.has_low in cc) in
      let found : class_named image x.name ≡ Some y.high = subst (λ (z : List ℕ). class_named image z ≡ Some y.high) (sym names) y.has_high in
      let high : y.high ≡ x.high = (let r = x.has_high in cc) in
      let first : extends image c x.high ≡ true = subst (λ (z : ℕ). extends image z x.high ≡ true) low x.above in
      let second : extends image d x.high ≡ true = subst (λ (z : ℕ). extends image d z ≡ true) high (subst (λ (z : ℕ). extends image z y.high ≡ true) other y.above) in
      let r : IsNear x.high (first_common image (supers image c) (supers image d)) = near (length image.classes) c x.high (supers image d) first second (named_inside image a c p) in
      let below : sub image (first_common image (supers image c) (supers image d)) (of_class x.name) ≡ true = common_below x.high (first_common image (supers image c) (supers image d)) x.name r x.has_high in
      subst (λ (z : Ty). sub image t z ≡ true) (sym x.is_class) (subst (λ (z : Ty). sub image z (of_class x.name) ≡ true) (sym same) below)

  least_there : (a b : List ℕ) (c d : ℕ) (t : Ty) → class_named image a ≡ Some c → class_named image b ≡ Some d → is_reference t ≡ true → t ≡ first_common image (supers image c) (supers image d) → (e : Ty) → IsAboveClass image a e → IsAboveClass image b e → sub image t e ≡ true
  least_there a b c d t p q r same e (inl (inl top)) y = under_object t e r top
  least_there a b c d t p q r same e (inl (inr x)) y = absurd (let none = x.1 in cc)
  least_there a b c d t p q r same e (inr x) (inl (inl top)) = under_object t e r top
  least_there a b c d t p q r same e (inr x) (inl (inr y)) = absurd (let none = y.1 in cc)
  least_there a b c d t p q r same e (inr x) (inr y) = both_above a b c d e t p q same x y

  two_classes : (a b : List ℕ) (c d : ℕ) (t : Ty) → class_named image a ≡ Some c → class_named image b ≡ Some d → t ≡ first_common image (supers image c) (supers image d) → IsOfBoth image (supers image c) (supers image d) t → IsCommon image (of_class a) (of_class b) t
  two_classes a b c d t p q same (inl top) =
      let r : is_reference t ≡ true = subst (λ (z : Ty). is_reference z ≡ true) (sym top) refl in
      record { reference = r; first = under_object (of_class a) t refl top; second = under_object (of_class b) t refl top; least = λ e u v. least_there a b c d t p q r same e (class_above a e u) (class_above b e v) }
  two_classes a b c d t p q same (inr x) =
      let r : is_reference t ≡ true = subst (λ (z : Ty). is_reference z ≡ true) (sym x.1) refl in
      record { reference = r; first = above_common a c x.0 t p x.1 x.2; second = above_common b d x.0 t q x.1 x.3; least = λ e u v. least_there a b c d t p q r same e (class_above a e u) (class_above b e v) }

  -- ---- two classes of which one isn't there

  least_object : (a b : List ℕ) → (a ≡ b → ⊥) → ((c d : ℕ) → class_named image a ≡ Some c → class_named image b ≡ Some d → ⊥) → (e : Ty) → IsAboveClass image a e → IsAboveClass image b e → sub image object_type e ≡ true
  least_object a b apart none e (inl (inl top)) y = under_object object_type e refl top
  least_object a b apart none e (inl (inr x)) (inl (inl top)) = under_object object_type e refl top
  least_object a b apart none e (inl (inr x)) (inl (inr y)) = absurd (apart (of_one_name a b (sym x.0 ∙ y.0)))
  least_object a b apart none e (inl (inr x)) (inr y) = absurd (let n : a ≡ y.name = of_one_name a y.name (sym x.0 ∙ y.is_class) in let found : class_named image a ≡ Some y.high = subst (λ (z : List ℕ). class_named image z ≡ Some y.high) (sym n) y.has_high in let lost = x.1 in cc)
  least_object a b apart none e (inr x) (inl (inl top)) = under_object object_type e refl top
  least_object a b apart none e (inr x) (inl (inr y)) = absurd (let n : b ≡ x.name = of_one_name b x.name (sym y.0 ∙ x.is_class) in let found : class_named image b ≡ Some x.high = subst (λ (z : List ℕ). class_named image z ≡ Some x.high) (sym n) x.has_high in let lost = y.1 in cc)
  least_object a b apart none e (inr x) (inr y) = absurd (none x.low y.low x.has_low y.has_low)

  one_lost : (a b : List ℕ) → (a ≡ b → ⊥) → ((c d : ℕ) → class_named image a ≡ Some c → class_named image b ≡ Some d → ⊥) → IsCommon image (of_class a) (of_class b) object_type
  one_lost a b apart none = record {
    reference = refl;
    first = under_object (of_class a) object_type refl refl;
    second = under_object (of_class b) object_type refl refl;
    least = λ e u v. least_object a b apart none e (class_above a e u) (class_above b e v);
  }

  pub classes_common : (a b : List ℕ) → (a ≡ b → ⊥) → (o p : Option ℕ) → class_named image a ≡ o → class_named image b ≡ p → IsCommon image (of_class a) (of_class b) (common_classes image o p)
  classes_common a b apart (Some c) (Some d) x y = two_classes a b c d (first_common image (supers image c) (supers image d)) x y refl (common_is image (supers image c) (supers image d))
  classes_common a b apart None p x y = one_lost a b apart (λ c d u v. cc)
  classes_common a b apart (Some c) None x y = one_lost a b apart (λ d e u v. cc)
