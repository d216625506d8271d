-- What the class of a receiver says of the method that a call lands on.
use Rattle.std.proofs.Common.{◌≡◌, ◌⊎◌, inl, inr, ℕ, zero, suc, ◌<◌, ◌≤◌, List, length, Bool, true, false, Some, None, refl, sym, ap, ◌∙◌, subst, arith}
use Rattle.std.specs.Prelude.{bytes_eq}
use Rattle.std.proofs.lemmas.Bool.{cases_lt}
use Rattle.std.proofs.lemmas.Option.{slice_get_past, none-some, same_Some}
use Rattle.dv_defs.specs.declared.names.Base.TheVariants as base
use Rattle.dv_defs.specs.declared.names.Ty.{Ty}
use Rattle.dv_defs.specs.Images.{Image}
use Rattle.dv_machine.specs.Kind.{Kind}
use Rattle.dv_machine.specs.Kind as kind
use Rattle.dv_defs.specs.Names.{object_name, string_name, class_name}
use Rattle.dv_defs.specs.Types.{of_class, ty_eq, is_reference}
use Rattle.dv_defs.specs.Pools.{class_type, class_named, is_interface, name_at, parent_at, parent_of, supers}
use Rattle.dv_defs.specs.Order.{has_number, extends, both_found, class_under, sub, fits}
use Rattle.dv_defs.specs.LookUp.{method_classes, superinterfaces}
use Rattle.dv_machine.specs.Heap.{Heap, kind_of, kind_type}
use Rattle.dv_machine.specs.Calls.{class_of_kind}
use Rattle.dv_machine.specs.Conforming.{IsOf}
use Rattle.dv_machine.specs.WellTyped.{Typings}
use Rattle.law_machine.proofs.lemmas.Calls.Interfaces.{superinterfaces_are}
use Rattle.dv_machine.specs.Accepted.{Accepted}
use Rattle.law_types.proofs.Facts.{no}
use Rattle.law_types.proofs.Walks.{up, up_is, up_later, refuel_up, extends_same, is_above, named_is}
use Rattle.law_types.proofs.Interfaces.{fits_open, fits_reference}
use Rattle.law_linking.proofs.Upward.{has_cases}

module _ (image : Image) where
  sub_named : (c d : ℕ) → class_named image (name_at image c) ≡ Some c → class_named image (name_at image d) ≡ Some d → extends image c d ≡ true → sub image (class_type image c) (class_type image d) ≡ true
  unfolding sub
  sub_named c d e f h = by_tests (ty_eq (class_type image c) (class_type image d)) (bytes_eq (name_at image d) object_name)
    where
      both : class_under image (extends image) (base.Class (name_at image c)) (name_at image d) ≡ true
      both = ap (λ o. both_found (extends image) o (class_named image (name_at image d))) e ∙ ap (both_found (extends image) (Some c)) f ∙ h

      by_tests : (x y : Bool) → (elim x as (λ w. Bool) [ true ↦ true | false ↦ elim y as (λ w. Bool) [ true ↦ true | false ↦ class_under image (extends image) (base.Class (name_at image c)) (name_at image d) ] ]) ≡ true
      by_tests true y = refl
      by_tests false true = refl
      by_tests false false = both

  no_parent : (c : ℕ) → length image.classes ≤ c → parent_at image c ≡ None
  no_parent c l = ap parent_of (slice_get_past image.classes c l)

  -- a walk from no class of the image ends at once
  past_is : (n d c : ℕ) → length image.classes ≤ c → up image n d c ≡ true → c ≡ d
  past_is zero d c l e = no e
  past_is (suc n) d c l e = elim (up_is image n d c e) [ inl q ↦ q | inr q ↦ absurd (none-some _ (sym (no_parent c l) ∙ q.1)) ]

module _ (image : Image) (T : Typings) (a : Accepted image T) where
  -- a superclass's type is above
  supers_sub : (c d : ℕ) → d < length image.classes → has_number d (supers image c) ≡ true → sub image (class_type image c) (class_type image d) ≡ true
  supers_sub c d l e = by_place (cases_lt c (length image.classes))
    where
      by_place : (c < length image.classes) ⊎ (length image.classes ≤ c) → sub image (class_type image c) (class_type image d) ≡ true
      by_place (inl i) = sub_named image c d (a.hierarchy.once c i) (a.hierarchy.once d l) e
      by_place (inr g) = let q = past_is image (length image.classes) d c g e in absurd (omega (arith, q, g, l))

  pub parent_sub : (c p : ℕ) → c < length image.classes → parent_at image c ≡ Some p → sub image (class_type image c) (class_type image p) ≡ true
  parent_sub c p l e =
      let i : p < length image.classes = a.hierarchy.inside c p (is_above image c p e) in
      supers_sub c p i (refuel_up image a.hierarchy (suc (length image.classes)) (length image.classes) p c (up_later image (length image.classes) p c p e (extends_same image a.hierarchy p i)) (a.hierarchy.bounded c l))

  -- ---- what fits the type of a class

  -- an interface takes each reference
  interface_takes : (x : Ty) (d : ℕ) → is_reference x ≡ true → d < length image.classes → is_interface image d ≡ true → fits image x (class_type image d) ≡ true
  interface_takes x d r l m =
      fits_open image x (class_type image d) (ap (λ o. elim o as (λ w. Bool) [ None ↦ false | Some c ↦ is_interface image c ]) (a.hierarchy.once d l) ∙ m) r

  -- what fits a class fits its superclasses, and each interface
  pub above_fits : (x : Ty) (c d : ℕ) → fits image x (class_type image c) ≡ true → d < length image.classes → has_number d (method_classes image c) ≡ true → fits image x (class_type image d) ≡ true
  above_fits x c d f l e = elim (has_cases d (supers image c) (superinterfaces image c) e) [
    | inl up ↦ a.order.fits_up x _ _ f (supers_sub c d l up)
    | inr up ↦ interface_takes x d (fits_reference image x (class_type image c) f refl) l (superinterfaces_are image a.hierarchy c d up)
  ]

  same_fits : (name : List ℕ) (c : ℕ) → class_named image name ≡ Some c → fits image (of_class name) (class_type image c) ≡ true
  same_fits name c e = subst (λ z. fits image (of_class name) (of_class z) ≡ true) (sym (named_is image name c e)) (a.order.instance_fits _ _ refl (a.order.sub_instance _ _ (a.order.same (of_class name))))

  object_takes : (x : Ty) (c : ℕ) → is_reference x ≡ true → class_named image object_name ≡ Some c → fits image x (class_type image c) ≡ true
  object_takes x c r e = subst (λ z. fits image x (of_class z) ≡ true) (sym (named_is image object_name c e)) (a.order.object_fits x r)

  -- an object fits the class from which its methods are looked up
  kind_fits : (k : Kind) (c : ℕ) → is_reference (kind_type image k) ≡ true → class_of_kind image (Some k) ≡ Some c → fits image (kind_type image k) (class_type image c) ≡ true
  kind_fits (kind.Object d) c r e = subst (λ z. fits image (class_type image d.0) (class_type image z) ≡ true) (same_Some d.0 c e) (a.order.instance_fits _ _ refl (a.order.sub_instance _ _ (a.order.same (class_type image d.0))))
  kind_fits (kind.Str s) c r e = same_fits string_name c e
  kind_fits (kind.ClassOf t) c r e = same_fits class_name c e
  kind_fits (kind.Array t) c r e = object_takes t c r e

  -- and so each class and interface above that
  pub looked_up_fits : (heap : Heap) (o : ℕ) (t : Ty) (c d : ℕ) → is_reference t ≡ true → IsOf image heap o t → class_of_kind image (kind_of heap o) ≡ Some c → d < length image.classes → has_number d (method_classes image c) ≡ true → IsOf image heap o (class_type image d)
  looked_up_fits heap o t c d r h e l n = record {
    object = h.object;
    fits = above_fits (kind_type image h.object.kind) c d (kind_fits h.object.kind c (fits_reference image _ t h.fits r) (ap (class_of_kind image) (sym h.object.has_kind) ∙ e)) l n;
  }
