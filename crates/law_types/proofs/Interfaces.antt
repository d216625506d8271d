-- Interfaces in the order of types: what is assignable to one or fits one, and what stands above one.
use Rattle.std.proofs.Common.{◌≡◌, ◌⊎◌, inl, inr, ℕ, zero, suc, List, length, Bool, true, false, Option, Some, None, refl, sym, ◌∙◌, subst, arith}
use Rattle.std.specs.Prelude.{slice_get, nat_eq}
use Rattle.std.proofs.lemmas.Bool.{eqb-true, eq-eqb, and_parts, and_from}
use Rattle.dv_defs.specs.declared.names.Base.{Base}
use Rattle.dv_defs.specs.declared.names.Base.TheVariants as base
use Rattle.dv_defs.specs.declared.names.Ty.{Ty}
use Rattle.dv_defs.specs.Images.{Image}
use Rattle.dv_defs.specs.Names.{object_name}
use Rattle.dv_defs.specs.Types.{class_in, is_reference}
use Rattle.dv_defs.specs.Pools.{class_named, name_at, parent_at, is_interface}
use Rattle.dv_defs.specs.Order.{sub, instance, assignable, fits, implements, reaches, interfaces_of, names_interface, is_interface_type}
use Rattle.law_types.specs.Hierarchy.{IsHierarchy}
use Rattle.law_types.proofs.Facts.{no, first_chosen, second_chosen}
use Rattle.law_types.proofs.Walks.{above_is, named_is, reach_is, object_reaches}
use Rattle.law_types.proofs.Types.{type_is, under_reference, class_is_reference, has_class, flat_under}

-- ---- interfaces

-- a class without dimensions that is an interface
record NamesInterface (image : Image) (t : Ty) : Type 0 where
  name : List ℕ
  flat : t.dims ≡ 0
  is_class : t.base ≡ base.Class name
  class : ℕ
  has_class : class_named image name ≡ Some class
  marked : is_interface image class ≡ true

named_interface : (image : Image) (name : List ℕ) (o : Option ℕ) → class_named image name ≡ o → elim o [ None ↦ false | Some c ↦ is_interface image c ] ≡ true → (c : ℕ) × (class_named image name ≡ Some c) × (is_interface image c ≡ true)
named_interface image name None e m = no m
named_interface image name (Some c) e m = (c, e, m)

interface_is : (image : Image) (t : Ty) (o : Option (List ℕ)) → class_in t.base ≡ o → t.dims ≡ 0 → names_interface image o ≡ true → NamesInterface image t
interface_is image t None e flat m = no m
interface_is image t (Some name) e flat m = let (c, has, marked) = named_interface image name (class_named image name) refl m in record { name = name; flat = flat; is_class = has_class t.base name e; class = c; has_class = has; marked = marked }

names_one : (image : Image) (t : Ty) → is_interface_type image t ≡ true → NamesInterface image t
names_one image t e = let p = and_parts (nat_eq t.dims 0) (names_interface image (class_in t.base)) e in interface_is image t (class_in t.base) refl (eqb-true t.dims 0 p.0) p.1

pub interface_is_reference : (image : Image) (t : Ty) → is_interface_type image t ≡ true → is_reference t ≡ true
interface_is_reference image t e = let i = names_one image t e in class_is_reference t i.name i.is_class

pub interface_is_flat : (image : Image) (t : Ty) → is_interface_type image t ≡ true → t.dims ≡ 0
interface_is_flat image t e = (names_one image t e).flat

-- ---- assignable and fits, by cases

pub fits_is : (image : Image) (x t : Ty) → fits image x t ≡ true → ((is_interface_type image t ≡ true) × (is_reference x ≡ true)) ⊎ ((is_interface_type image t ≡ false) × (instance image x t ≡ true))
unfolding fits
fits_is image x t f = by_test (is_interface_type image t) refl f
  where
    by_test : (b : Bool) → is_interface_type image t ≡ b → elim b [ true ↦ is_reference x | false ↦ instance image x t ] ≡ true → ((is_interface_type image t ≡ true) × (is_reference x ≡ true)) ⊎ ((is_interface_type image t ≡ false) × (instance image x t ≡ true))
    by_test true e u = inl (e, u)
    by_test false e u = inr (e, u)

pub assignable_is : (image : Image) (s t : Ty) → assignable image s t ≡ true → ((is_interface_type image t ≡ true) × (is_reference s ≡ true)) ⊎ ((is_interface_type image t ≡ false) × (sub image s t ≡ true))
unfolding assignable
assignable_is image s t f = by_test (is_interface_type image t) refl f
  where
    by_test : (b : Bool) → is_interface_type image t ≡ b → elim b [ true ↦ is_reference s | false ↦ sub image s t ] ≡ true → ((is_interface_type image t ≡ true) × (is_reference s ≡ true)) ⊎ ((is_interface_type image t ≡ false) × (sub image s t ≡ true))
    by_test true e u = inl (e, u)
    by_test false e u = inr (e, u)

pub assignable_open : (image : Image) (s t : Ty) → is_interface_type image t ≡ true → is_reference s ≡ true → assignable image s t ≡ true
unfolding assignable
assignable_open image s t e r = first_chosen (is_interface_type image t) (is_reference s) (sub image s t) e r

pub assignable_closed : (image : Image) (s t : Ty) → is_interface_type image t ≡ false → sub image s t ≡ true → assignable image s t ≡ true
unfolding assignable
assignable_closed image s t e u = second_chosen (is_interface_type image t) (is_reference s) (sub image s t) e u

pub fits_open : (image : Image) (x t : Ty) → is_interface_type image t ≡ true → is_reference x ≡ true → fits image x t ≡ true
unfolding fits
fits_open image x t e r = first_chosen (is_interface_type image t) (is_reference x) (instance image x t) e r

pub fits_closed : (image : Image) (x t : Ty) → is_interface_type image t ≡ false → instance image x t ≡ true → fits image x t ≡ true
unfolding fits
fits_closed image x t e u = second_chosen (is_interface_type image t) (is_reference x) (instance image x t) e u

is_interface_named : (image : Image) (t : Ty) (name : List ℕ) (c : ℕ) → t.dims ≡ 0 → t.base ≡ base.Class name → class_named image name ≡ Some c → is_interface image c ≡ true → is_interface_type image t ≡ true
is_interface_named image t name c flat e has marked = and_from (nat_eq t.dims 0) (names_interface image (class_in t.base)) (eq-eqb t.dims 0 flat) (subst (λ (b : Base). names_interface image (class_in b) ≡ true) (sym e) (named_marked (class_named image name) has))
  where
    named_marked : (o : Option ℕ) → o ≡ Some c → elim o [ None ↦ false | Some d ↦ is_interface image d ] ≡ true
    named_marked None q = absurd (cc)
    named_marked (Some d) q = subst (λ (x : ℕ). is_interface image x ≡ true) (let p : c ≡ d = cc in p) marked

-- what is an instance of a reference type, or fits one, is one
pub instance_reference : (image : Image) (s t : Ty) → instance image s t ≡ true → is_reference t ≡ true → is_reference s ≡ true
unfolding instance
instance_reference image s t x y = under_reference image (implements image) s t x y

pub fits_reference : (image : Image) (x s : Ty) → fits image x s ≡ true → is_reference s ≡ true → is_reference x ≡ true
fits_reference image x s f r = elim (fits_is image x s f) [ inl a ↦ a.1 | inr a ↦ instance_reference image x s a.1 r ]

-- ---- what stands above an interface

abbrev pub IsObjectType : Ty → Type 0
IsObjectType t = (t.dims ≡ 0) × (t.base ≡ base.Class object_name)

module _ (image : Image) (h : IsHierarchy image) where
  -- a superclass of an interface is Object, above which is nothing else
  pub above_interface : (n c d : ℕ) → is_interface image c ≡ true → reaches image n d c ≡ true → (is_interface image d ≡ true) ⊎ (name_at image d ≡ object_name)
  above_interface zero c d m r = no r
  above_interface (suc n) c d m r = elim (reach_is image n d c r) [
    | inl here ↦ inl (subst (λ (x : ℕ). is_interface image x ≡ true) here m)
    | inr step ↦ elim (above_is (parent_at image c) (interfaces_of (slice_get image.classes c)) step.0 step.1) [
      | inl parent ↦ inr (let named : name_at image step.0 ≡ object_name = h.interfaces c step.0 m parent in
          let found : class_named image object_name ≡ Some step.0 = subst (λ (x : List ℕ). class_named image x ≡ Some step.0) named (h.once step.0 (h.inside c step.0 step.1)) in
          subst (λ (x : ℕ). name_at image x ≡ object_name) (object_reaches image h n step.0 d found step.2) named)
      | inr listed ↦ above_interface n step.0 d (h.superinterfaces c step.0 listed) step.2
    ]
  ]

  -- a type that is above an interface is one, or is Object
  pub open_above : (s t : Ty) → is_interface_type image s ≡ true → instance image s t ≡ true → (is_interface_type image t ≡ true) ⊎ IsObjectType t
  unfolding instance
  open_above s t e u =
      let i = names_one image s e in
      elim (type_is image (implements image) s t u) [
        | inl same ↦ inl (subst (λ (x : Ty). is_interface_type image x ≡ true) same e)
        | inr v ↦ (let flat : t.dims ≡ 0 = omega (arith, v.dims, i.flat) in
            let none : v.more ≡ 0 = omega (arith, v.dims, i.flat) in
            elim (flat_under image (implements image) v.more s.base v.name none v.tested) [
              | inl top ↦ inr (flat, subst (λ (x : List ℕ). t.base ≡ base.Class x) top v.is_class)
              | inr a ↦ (let n : i.name ≡ a.name = (let p : base.Class i.name ≡ base.Class a.name = sym i.is_class ∙ a.is_class in cc) in
                  let low : i.class ≡ a.low = (let p : class_named image a.name ≡ Some i.class = subst (λ (x : List ℕ). class_named image x ≡ Some i.class) n i.has_class in (let q = a.has_low in cc)) in
                  elim (above_interface (suc (length image.classes)) a.low a.high (subst (λ (x : ℕ). is_interface image x ≡ true) low i.marked) a.tested) [
                    | inl marked ↦ inl (is_interface_named image t v.name a.high flat v.is_class a.has_high marked)
                    | inr top ↦ inr (flat, subst (λ (x : List ℕ). t.base ≡ base.Class x) (sym (named_is image v.name a.high a.has_high) ∙ top) v.is_class)
                  ])
            ])
      ]
