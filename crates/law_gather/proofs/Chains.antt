-- Types above one type are above one another.
use Rattle.std.proofs.Common.{◌≡◌, ◌⊎◌, inl, inr, ℕ, zero, suc, ◌-◌, ◌<◌, ◌≤◌, List, length, true, ◌&&◌, Some, refl, sym, ◌∙◌, subst, arith}
use Rattle.std.specs.Prelude.{bytes_eq}
use Rattle.std.proofs.lemmas.Bool.{and_from, cases_lt}
use Rattle.dv_defs.specs.declared.names.Base.{Base}
use Rattle.dv_defs.specs.declared.names.Base.TheVariants as base
use Rattle.dv_defs.specs.declared.names.Ty.{Ty}
use Rattle.dv_defs.specs.Images.{Image}
use Rattle.dv_defs.specs.Names.{object_name}
use Rattle.dv_defs.specs.Types.{is_class_base}
use Rattle.dv_defs.specs.Pools.{class_named}
use Rattle.dv_defs.specs.Order.{class_under, under_class, sub, extends}
use Rattle.law_types.specs.Hierarchy.{IsHierarchy}
use Rattle.law_types.proofs.Facts.{no, by_first, by_second}
use Rattle.law_types.proofs.Equal.{names_are, names_equal}
use Rattle.law_types.proofs.Types.{AreUnder, IsUnder, type_is, is_type, flat_under, is_under}
use Rattle.law_types.proofs.Walks.{up, up_is, refuel_up, named_inside}

-- one of two classes is above the other
abbrev pub InChain : Image → ℕ → ℕ → Type 0
InChain image d e = ((k : ℕ) × (up image k e d ≡ true)) ⊎ ((k : ℕ) × (up image k d e ≡ true))

-- superclasses of one class are in a chain
walks_chain : (image : Image) (n m c d e : ℕ) → up image n d c ≡ true → up image m e c ≡ true → InChain image d e
walks_chain image zero m c d e u v = no u
walks_chain image (suc n) zero c d e u v = no v
walks_chain image (suc n) (suc m) c d e u v = elim (up_is image n d c u) [
  | inl here ↦ inl (suc m, subst (λ (z : ℕ). up image (suc m) e z ≡ true) here v)
  | inr step ↦ elim (up_is image m e c v) [
    | inl here ↦ inr (suc n, subst (λ (z : ℕ). up image (suc n) d z ≡ true) here u)
    | inr other ↦ (let one : step.0 ≡ other.0 = (let p = step.1 in let q = other.1 in cc) in
        walks_chain image n m step.0 d e step.2 (subst (λ (z : ℕ). up image m e z ≡ true) (sym one) other.2))
  ]
]

module _ (image : Image) (h : IsHierarchy image) where
  up_extends : (k d e : ℕ) → d < length image.classes → up image k e d ≡ true → extends image d e ≡ true
  up_extends k d e l u = refuel_up image h k (length image.classes) e d u (h.bounded d l)

  extends_chain : (c d e : ℕ) → d < length image.classes → e < length image.classes → extends image c d ≡ true → extends image c e ≡ true →
      (extends image d e ≡ true) ⊎ (extends image e d ≡ true)
  extends_chain c d e l m u v = elim (walks_chain image (length image.classes) (length image.classes) c d e u v) [
    | inl r ↦ inl (up_extends r.0 d e l r.1)
    | inr r ↦ inr (up_extends r.0 e d m r.1)
  ]

  -- ---- classes and arrays of Object

  object_under : (n : ℕ) (b : Base) (name d : List ℕ) → b ≡ base.Class name → d ≡ object_name → under_class image (extends image) n b d ≡ true
  object_under (suc n) b name d e o = names_equal d object_name o
  object_under zero b name d e o =
      by_first (is_class_base b && bytes_eq d object_name) (class_under image (extends image) b d)
      (and_from (is_class_base b) (bytes_eq d object_name) (subst (λ (z : Base). is_class_base z ≡ true) (sym e) refl) (names_equal d object_name o))

  -- a class or an array of one is under Object, or an array of it, of no more dimensions
  below_object : (a b : Ty) (x y : List ℕ) → a.base ≡ base.Class x → b.base ≡ base.Class y → y ≡ object_name → b.dims ≤ a.dims → sub image a b ≡ true
  unfolding sub
  below_object a b x y p q o l =
      is_type image (extends image) a b (record { name = y; is_class = q; more = a.dims - b.dims; dims = omega (arith, l); tested = object_under (a.dims - b.dims) a.base x y p o })

  -- under Object, or, with no dimensions between, under a class
  at_class : (n : ℕ) (a : Base) (d : List ℕ) → under_class image (extends image) n a d ≡ true → (d ≡ object_name) ⊎ ((n ≡ 0) × AreUnder image (extends image) a d)
  at_class (suc n) a d u = inl (names_are d object_name u)
  at_class zero a d u = elim (flat_under image (extends image) zero a d refl u) [ inl top ↦ inl top | inr r ↦ inr (refl, r) ]

  -- ---- types

  below_class : (a b : Ty) (x y : List ℕ) (low high : ℕ) → a.base ≡ base.Class x → b.base ≡ base.Class y → a.dims ≡ b.dims →
      class_named image x ≡ Some low → class_named image y ≡ Some high → extends image low high ≡ true → sub image a b ≡ true
  unfolding sub
  below_class a b x y low high p q l has_low has_high u =
      let tested : under_class image (extends image) 0 (base.Class x) y ≡ true =
      by_second (is_class_base (base.Class x) && bytes_eq y object_name) (class_under image (extends image) (base.Class x) y) (is_under image (extends image) x y low high has_low has_high u) in
      is_type image (extends image) a b (record { name = y; is_class = q; more = 0; dims = omega (arith, l); tested = subst (λ (z : Base). under_class image (extends image) 0 z y ≡ true) (sym p) tested })

  both_classes : (s a b : Ty) (x y : List ℕ) → a.base ≡ base.Class x → b.base ≡ base.Class y → a.dims ≡ b.dims →
      AreUnder image (extends image) s.base x → AreUnder image (extends image) s.base y → (sub image a b ≡ true) ⊎ (sub image b a ≡ true)
  both_classes s a b x y p q l u v =
      let names : u.name ≡ v.name = (let one = u.is_class in let two = v.is_class in let same : base.Class u.name ≡ base.Class v.name = sym one ∙ two in cc) in
      let lows : u.low ≡ v.low = (let one = u.has_low in let two : class_named image u.name ≡ Some v.low = subst (λ (z : List ℕ). class_named image z ≡ Some v.low) (sym names) v.has_low in cc) in
      elim (extends_chain u.low u.high v.high (named_inside image x u.high u.has_high) (named_inside image y v.high v.has_high) u.tested (subst (λ (z : ℕ). extends image z v.high ≡ true) (sym lows) v.tested)) [
        | inl r ↦ inl (below_class a b x y u.high v.high p q l u.has_high v.has_high r)
        | inr r ↦ inr (below_class b a y x v.high u.high q p (sym l) v.has_high u.has_high r)
      ]

  both_under : (s a b : Ty) → IsUnder image (extends image) s a → IsUnder image (extends image) s b → (sub image a b ≡ true) ⊎ (sub image b a ≡ true)
  both_under s a b x y = elim (at_class x.more s.base x.name x.tested) [
    | inl top ↦ elim (at_class y.more s.base y.name y.tested) [
      | inl other ↦ elim (cases_lt a.dims b.dims) [
        | inl l ↦ inr (below_object b a y.name x.name y.is_class x.is_class top (omega (arith, l)))
        | inr l ↦ inl (below_object a b x.name y.name x.is_class y.is_class other l)
      ]
      | inr flat ↦ inr (below_object b a y.name x.name y.is_class x.is_class top (let z = flat.0 in omega (arith, z, x.dims, y.dims)))
    ]
    | inr flat ↦ elim (at_class y.more s.base y.name y.tested) [
      | inl other ↦ inl (below_object a b x.name y.name x.is_class y.is_class other (let z = flat.0 in omega (arith, z, x.dims, y.dims)))
      | inr even ↦ both_classes s a b x.name y.name x.is_class y.is_class (let z = flat.0 in let w = even.0 in omega (arith, z, w, x.dims, y.dims)) flat.1 even.1
    ]
  ]

  -- of two types above one, one is under the other
  pub types_chain : (s a b : Ty) → sub image s a ≡ true → sub image s b ≡ true → (sub image a b ≡ true) ⊎ (sub image b a ≡ true)
  unfolding sub
  types_chain s a b u v = elim (type_is image (extends image) s a u) [
    | inl same ↦ inl (subst (λ (z : Ty). sub image z b ≡ true) same v)
    | inr x ↦ elim (type_is image (extends image) s b v) [
      | inl same ↦ inr (subst (λ (z : Ty). sub image z a ≡ true) same u)
      | inr y ↦ both_under s a b x y
    ]
  ]
