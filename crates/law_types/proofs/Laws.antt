-- The order of types: subtype, instance, assignable and fits.
use Rattle.std.proofs.Common.{◌≡◌, inl, inr, ℕ, ◌<◌, List, true, Some, refl, sym, ap, ◌∙◌, subst, arith}
use Rattle.std.proofs.lemmas.Bool.{ltb-true, cases_Bool}
use Rattle.dv_defs.specs.declared.names.Base.{Base}
use Rattle.dv_defs.specs.declared.names.Base.TheVariants as base
use Rattle.dv_defs.specs.declared.names.Ty.{Ty}
use Rattle.dv_defs.specs.Images.{Image}
use Rattle.dv_defs.specs.Names.{object_name}
use Rattle.dv_defs.specs.Types.{of_class, is_array, is_reference, component}
use Rattle.dv_defs.specs.Pools.{class_named, name_at}
use Rattle.dv_defs.specs.Order.{under_class, sub, instance, assignable, fits, extends, implements, is_interface_type}
use Rattle.law_types.specs.Hierarchy.{IsHierarchy}
use Rattle.law_types.specs.Laws.{TypesAreOrdered}
use Rattle.law_types.proofs.Walks.{named_is, extends_trans, implements_trans, extends_implements, object_extends, object_implements, extends_near}
use Rattle.law_types.proofs.Equal.{ty_from}
use Rattle.law_types.proofs.Types.{IsClassOrder, type_is, type_same, type_trans, under_component, object_above, flat_under, under_from, type_weaker, above_object}
use Rattle.law_types.proofs.Interfaces.{fits_is, fits_open, fits_closed, interface_is_flat, interface_is_reference, instance_reference, fits_reference, open_above, IsObjectType, assignable_is}

pub extends_order : (image : Image) → IsHierarchy image → IsClassOrder image (extends image)
extends_order image h = record { trans = extends_trans image h; top = object_extends image h }

pub implements_order : (image : Image) → IsHierarchy image → IsClassOrder image (implements image)
implements_order image h = record { trans = implements_trans image h; top = object_implements image h }

module _ (image : Image) (h : IsHierarchy image) where
  -- ---- fits goes along instance

  instance_trans : (s t u : Ty) → instance image s t ≡ true → instance image t u ≡ true → instance image s u ≡ true
  unfolding instance
  instance_trans s t u x y = type_trans image (implements image) (implements_order image h) s t u x y

  instance_object : (s t : Ty) → is_reference s ≡ true → IsObjectType t → instance image s t ≡ true
  unfolding instance
  instance_object s t r o = object_above image (implements image) s t r o.0 o.1

  fits_along : (x s t : Ty) → fits image x s ≡ true → instance image s t ≡ true → fits image x t ≡ true
  fits_along x s t f u = elim (cases_Bool (is_interface_type image t)) [
    | inl e ↦ fits_open image x t e (fits_reference image x s f (instance_reference image s t u (interface_is_reference image t e)))
    | inr e ↦ fits_closed image x t e (elim (fits_is image x s f) [
      | inl a ↦ elim (open_above image h s t a.0 u) [ inl i ↦ absurd (cc) | inr o ↦ instance_object x t a.1 o ]
      | inr a ↦ instance_trans x s t a.1 u
    ])
  ]

  sub_instance : (s t : Ty) → sub image s t ≡ true → instance image s t ≡ true
  unfolding sub instance
  sub_instance s t u = type_weaker image (extends image) (implements image) (extends_implements image h) s t u

  fits_assignable : (x s t : Ty) → fits image x s ≡ true → assignable image s t ≡ true → fits image x t ≡ true
  fits_assignable x s t f a = elim (assignable_is image s t a) [
    | inl p ↦ fits_open image x t p.0 (fits_reference image x s f p.1)
    | inr p ↦ fits_along x s t f (sub_instance s t p.1)
  ]

  instance_fits : (x t : Ty) → is_reference x ≡ true → instance image x t ≡ true → fits image x t ≡ true
  instance_fits x t r u = elim (cases_Bool (is_interface_type image t)) [ inl e ↦ fits_open image x t e r | inr e ↦ fits_closed image x t e u ]

  components : (x t : Ty) → fits image x t ≡ true → is_array t ≡ true → (is_array x ≡ true) × (instance image (component x) (component t) ≡ true)
  unfolding instance
  components x t f a =
      let l : 0 < t.dims = ltb-true 0 t.dims a in
      elim (fits_is image x t f) [
        | inl p ↦ absurd (let z : t.dims ≡ 0 = interface_is_flat image t p.0 in omega (arith, z, l))
        | inr p ↦ under_component image (implements image) (implements_order image h) x t p.1 l
      ]

  object_fits : (x : Ty) → is_reference x ≡ true → fits image x (of_class object_name) ≡ true
  object_fits x r = instance_fits x (of_class object_name) r (instance_object x (of_class object_name) r (refl, refl))

  -- ---- subtype

  pub sub_same : (s : Ty) → sub image s s ≡ true
  unfolding sub
  sub_same s = type_same image (extends image) s s refl

  pub sub_trans : (s t u : Ty) → sub image s t ≡ true → sub image t u ≡ true → sub image s u ≡ true
  unfolding sub
  sub_trans s t u x y = type_trans image (extends image) (extends_order image h) s t u x y

  -- classes that are under each other are one
  both_near : (c d : ℕ) → extends image c d ≡ true → extends image d c ≡ true → c ≡ d
  both_near c d x y = elim (extends_near image h c d x) [ inl e ↦ e | inr l ↦ elim (extends_near image h d c y) [ inl e ↦ sym e | inr k ↦ absurd (omega (arith, l, k)) ] ]

  -- so are class types
  same_names : (a b : List ℕ) → under_class image (extends image) 0 (base.Class a) b ≡ true → under_class image (extends image) 0 (base.Class b) a ≡ true → a ≡ b
  same_names a b x y = elim (flat_under image (extends image) 0 (base.Class a) b refl x) [
    | inl top ↦ elim (flat_under image (extends image) 0 (base.Class b) a refl y) [
      | inl bottom ↦ bottom ∙ sym top
      | inr v ↦ above_object image (extends image) (extends_order image h) b a top (under_from image (extends image) b a v) ∙ sym top
    ]
    | inr u ↦ elim (flat_under image (extends image) 0 (base.Class b) a refl y) [
      | inl bottom ↦ bottom ∙ sym (above_object image (extends image) (extends_order image h) a b bottom (under_from image (extends image) a b u))
      | inr v ↦ (let n : a ≡ u.name = (let p : base.Class a ≡ base.Class u.name = u.is_class in cc) in
          let k : b ≡ v.name = (let p : base.Class b ≡ base.Class v.name = v.is_class in cc) in
          let low : class_named image a ≡ Some u.low = subst (λ (x : List ℕ). class_named image x ≡ Some u.low) (sym n) u.has_low in
          let high : class_named image b ≡ Some v.low = subst (λ (x : List ℕ). class_named image x ≡ Some v.low) (sym k) v.has_low in
          let p : u.low ≡ v.high = (let q = v.has_high in cc) in
          let r : v.low ≡ u.high = (let q = u.has_high in cc) in
          let same : u.low ≡ u.high = both_near u.low u.high u.tested (subst (λ (x : ℕ). extends image u.high x ≡ true) (sym p) (subst (λ (x : ℕ). extends image x v.high ≡ true) r v.tested)) in
          sym (named_is image a u.low low) ∙ (ap (λ (x : ℕ). name_at image x) same ∙ named_is image b u.high u.has_high))
    ]
  ]

  sub_antisymmetric : (s t : Ty) → sub image s t ≡ true → sub image t s ≡ true → s ≡ t
  unfolding sub
  sub_antisymmetric s t x y = elim (type_is image (extends image) s t x) [
    | inl same ↦ same
    | inr u ↦ elim (type_is image (extends image) t s y) [
      | inl same ↦ sym same
      | inr v ↦ (let a : u.more ≡ 0 = omega (arith, u.dims, v.dims) in
          let b : v.more ≡ 0 = omega (arith, u.dims, v.dims) in
          let x : under_class image (extends image) 0 (base.Class v.name) u.name ≡ true = subst (λ (z : Base). under_class image (extends image) 0 z u.name ≡ true) v.is_class (subst (λ (z : ℕ). under_class image (extends image) z s.base u.name ≡ true) a u.tested) in
          let y : under_class image (extends image) 0 (base.Class u.name) v.name ≡ true = subst (λ (z : Base). under_class image (extends image) 0 z v.name ≡ true) u.is_class (subst (λ (z : ℕ). under_class image (extends image) z t.base v.name ≡ true) b v.tested) in
          ty_from s t (omega (arith, u.dims)) (v.is_class ∙ (ap base.Class (same_names v.name u.name x y) ∙ sym u.is_class)))
    ]
  ]

pub types_are_ordered : TypesAreOrdered
types_are_ordered image h = record {
  same = sub_same image h;
  trans = sub_trans image h;
  antisymmetric = sub_antisymmetric image h;
  sub_instance = sub_instance image h;
  instance_trans = instance_trans image h;
  fits_up = λ x s t f u. fits_along image h x s t f (sub_instance image h s t u);
  fits_assignable = fits_assignable image h;
  instance_fits = instance_fits image h;
  fits_through = fits_along image h;
  components = components image h;
  object_fits = object_fits image h;
}
