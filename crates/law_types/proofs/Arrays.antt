-- The nearest common superclass of two types is above both and under each type that is.
use Rattle.std.proofs.Common.{◌≡◌, ◌⊎◌, inl, inr, ℕ, zero, suc, ◌<◌, ◌≤◌, List, Bool, true, false, ◌&&◌, ◌||◌, refl, sym, ap, ◌∙◌, subst, arith}
use Rattle.std.proofs.lemmas.Bool.{and_parts, and_cases, and_from, or_cases, or_parts, ltb-true, ltb-false, lt-ltb, cases_eq}
use Rattle.dv_defs.specs.declared.names.Base.{Base}
use Rattle.dv_defs.specs.declared.names.Base.TheVariants as base
use Rattle.dv_defs.specs.declared.names.Ty.{Ty}
use Rattle.dv_defs.specs.Images.{Image}
use Rattle.dv_defs.specs.Names.{object_name}
use Rattle.dv_defs.specs.Types.{of_class, is_array, is_class_base, is_reference, component, ty_eq}
use Rattle.dv_defs.specs.Pools.{class_named}
use Rattle.dv_defs.specs.Order.{under_class, sub, extends}
use Rattle.dv_defs.specs.Op.{class_of_base}
use Rattle.dv_defs.specs.Common.{object_type, common_classes, array_of, joins_by_component, common_flat, common_at, common_super}
use Rattle.law_types.specs.Hierarchy.{IsHierarchy}
use Rattle.law_types.proofs.Equal.{ty_from, ty_is, ty_equal, names_are}
use Rattle.law_types.proofs.Types.{type_is, is_type, type_same, base_is_class, class_is_reference, array_is_reference, under_class_reference}
use Rattle.law_types.proofs.Laws.{sub_same}
use Rattle.law_types.proofs.Common.{IsCommon, is_of_class, under_object, classes_common}
use Rattle.law_types.proofs.Changed.{sub_component}

-- ---- arrays

array_again : (a : Ty) → 0 < a.dims → array_of (component a) ≡ a
array_again a l = ty_from (array_of (component a)) a (omega (arith, l)) refl

more_is_object : (image : Image) (n : ℕ) (b : Base) (d : List ℕ) → 0 < n → under_class image (extends image) n b d ≡ true → d ≡ object_name
more_is_object image zero b d l u = absurd (omega arith)
more_is_object image (suc n) b d l u = names_are d object_name u

module _ (image : Image) (h : IsHierarchy image) where
  array_up : (x y : Ty) → sub image x y ≡ true → sub image (array_of x) (array_of y) ≡ true
  unfolding sub
  array_up x y u = elim (type_is image (extends image) x y u) [
    | inl same ↦ type_same image (extends image) (array_of x) (array_of y) (ap (λ (z : Ty). array_of z) same)
    | inr v ↦ is_type image (extends image) (array_of x) (array_of y) (record { name = v.name; is_class = v.is_class; more = v.more; dims = omega (arith, v.dims); tested = v.tested })
  ]

  -- what is above an array and no array is Object
  above_array : (a e : Ty) → sub image a e ≡ true → 0 < a.dims → e.dims ≡ 0 → e ≡ object_type
  unfolding sub
  above_array a e u l flat = elim (type_is image (extends image) a e u) [
    | inl same ↦ absurd (let q : a.dims ≡ e.dims = ap (λ (z : Ty). z.dims) same in omega (arith, q, l, flat))
    | inr v ↦ ty_from e object_type flat (v.is_class ∙ ap base.Class (more_is_object image v.more a.base v.name (omega (arith, v.dims, l, flat)) v.tested))
  ]

  -- what is no reference stands alone
  alone_low : (x y : Ty) → sub image x y ≡ true → is_reference x ≡ false → x ≡ y
  unfolding sub
  alone_low x y u r = elim (type_is image (extends image) x y u) [
    | inl same ↦ same
    | inr v ↦ absurd (let q : is_reference x ≡ true = under_class_reference image (extends image) v.more x v.name (omega (arith, v.dims)) v.tested in cc)
  ]

  alone_high : (x y : Ty) → sub image x y ≡ true → is_reference y ≡ false → x ≡ y
  unfolding sub
  alone_high x y u r = elim (type_is image (extends image) x y u) [
    | inl same ↦ same
    | inr v ↦ absurd (let q : is_reference y ≡ true = class_is_reference y v.name v.is_class in cc)
  ]

  -- arrays that aren't of references, under one array, are one
  same_arrays : (a b e : Ty) → sub image (component a) (component e) ≡ true → sub image (component b) (component e) ≡ true → is_reference (component a) ≡ false → 0 < a.dims → 0 < b.dims → a ≡ b
  same_arrays a b e u v r k l =
      let p : component a ≡ component e = alone_low (component a) (component e) u r in
      let q : component b ≡ component e = alone_high (component b) (component e) v (subst (λ (z : Ty). is_reference z ≡ false) p r) in
      sym (array_again a k) ∙ (ap (λ (z : Ty). array_of z) (p ∙ sym q) ∙ array_again b l)

  arrays_apart : (a b e : Ty) → joins_by_component a b ≡ false → sub image a e ≡ true → sub image b e ≡ true → is_array e ≡ true → a ≡ b
  arrays_apart a b e j u v r =
      let p = sub_component image h a e u r in
      let q = sub_component image h b e v r in
      let k : 0 < a.dims = ltb-true 0 a.dims p.0 in
      let l : 0 < b.dims = ltb-true 0 b.dims q.0 in
      elim (and_cases (is_array a && is_array b && is_reference (component a)) (is_reference (component b)) j) [
        | inr off ↦ sym (same_arrays b a e q.1 p.1 off l k)
        | inl rest ↦ elim (and_cases (is_array a && is_array b) (is_reference (component a)) rest) [
          | inr off ↦ same_arrays a b e p.1 q.1 off k l
          | inl none ↦ absurd (let both : (is_array a && is_array b) ≡ true = and_from (is_array a) (is_array b) p.0 q.0 in cc)
        ]
      ]

  array_common : (a b c : Ty) → 0 < a.dims → 0 < b.dims → IsCommon image (component a) (component b) c → IsCommon image a b (array_of c)
  array_common a b c k l x = record {
    reference = array_is_reference (array_of c) (omega arith);
    first = subst (λ (z : Ty). sub image z (array_of c) ≡ true) (array_again a k) (array_up (component a) c x.first);
    second = subst (λ (z : Ty). sub image z (array_of c) ≡ true) (array_again b l) (array_up (component b) c x.second);
    least = λ e u v. by_dims e u v (cases_eq e.dims 0);
  }
    where
      by_dims : (e : Ty) → sub image a e ≡ true → sub image b e ≡ true → (e.dims ≡ 0) ⊎ (e.dims ≡ 0 → ⊥) → sub image (array_of c) e ≡ true
      by_dims e u v (inl flat) = under_object image h (array_of c) e (array_is_reference (array_of c) (omega arith)) (above_array a e u k flat)
      by_dims e u v (inr deep) =
          let m : 0 < e.dims = omega (arith, deep) in
          let r : is_array e ≡ true = lt-ltb 0 e.dims m in
          let p = sub_component image h a e u r in
          let q = sub_component image h b e v r in
          subst (λ (z : Ty). sub image (array_of c) z ≡ true) (array_again e m) (array_up c (component e) (x.least (component e) p.1 q.1))

  -- ---- where one is an array

  object_common : (a b : Ty) → is_reference a ≡ true → is_reference b ≡ true → (a ≡ b → ⊥) → joins_by_component a b ≡ false → (is_array a || is_array b) ≡ true → IsCommon image a b object_type
  object_common a b r s apart j o = record {
    reference = refl;
    first = under_object image h a object_type r refl;
    second = under_object image h b object_type s refl;
    least = λ e u v. under_object image h object_type e refl (by_dims e u v (cases_eq e.dims 0));
  }
    where
      by_dims : (e : Ty) → sub image a e ≡ true → sub image b e ≡ true → (e.dims ≡ 0) ⊎ (e.dims ≡ 0 → ⊥) → e ≡ object_type
      by_dims e u v (inl flat) = elim (or_cases (is_array a) (is_array b) o) [ inl x ↦ above_array a e u (ltb-true 0 a.dims x) flat | inr x ↦ above_array b e v (ltb-true 0 b.dims x) flat ]
      by_dims e u v (inr deep) = absurd (apart (arrays_apart a b e j u v (lt-ltb 0 e.dims (omega (arith, deep)))))

  -- ---- where none is

  class_of : (a : Ty) → is_reference a ≡ true → is_array a ≡ false → (name : List ℕ) × (a ≡ of_class name)
  class_of a r n =
      let b : is_class_base a.base ≡ true = elim (or_cases (is_array a) (is_class_base a.base) r) [ inl x ↦ absurd (cc) | inr x ↦ x ] in
      let (name, e) = base_is_class a.base b in
      (name, is_of_class a name (let l : a.dims ≤ 0 = ltb-false 0 a.dims n in omega (arith, l)) e)

  flat_common : (a b : Ty) → is_reference a ≡ true → is_reference b ≡ true → (a ≡ b → ⊥) → is_array a ≡ false → is_array b ≡ false → IsCommon image a b (common_classes image (class_of_base image a.base) (class_of_base image b.base))
  flat_common a b r s apart m n =
      let (x, p) = class_of a r m in
      let (y, q) = class_of b s n in
      let names : x ≡ y → ⊥ = λ e. apart (p ∙ (ap (λ (z : List ℕ). of_class z) e ∙ sym q)) in
      subst (λ (z : Ty). IsCommon image z b (common_classes image (class_of_base image z.base) (class_of_base image b.base))) (sym p)
      (subst (λ (z : Ty). IsCommon image (of_class x) z (common_classes image (class_named image x) (class_of_base image z.base))) (sym q)
      (classes_common image h x y names (class_named image x) (class_named image y) refl refl))

  flat_by : (a b : Ty) → is_reference a ≡ true → is_reference b ≡ true → (a ≡ b → ⊥) → joins_by_component a b ≡ false → (o : Bool) → (is_array a || is_array b) ≡ o → IsCommon image a b (elim o [ true ↦ object_type | false ↦ common_classes image (class_of_base image a.base) (class_of_base image b.base) ])
  flat_by a b r s apart j true o = object_common a b r s apart j o
  flat_by a b r s apart j false o = (let p = or_parts (is_array a) (is_array b) o in flat_common a b r s apart p.0 p.1)

  -- ---- both

  component_by : (n : ℕ) (a b : Ty) → is_reference a ≡ true → is_reference b ≡ true → (a ≡ b → ⊥) → (is_reference (component a) ≡ true → is_reference (component b) ≡ true → 0 < a.dims → IsCommon image (component a) (component b) (common_at image n (component a) (component b))) → (j : Bool) → joins_by_component a b ≡ j → IsCommon image a b (elim j [ true ↦ array_of (common_at image n (component a) (component b)) | false ↦ common_flat image a b ])
  component_by n a b r s apart inner true j =
      let p = and_parts (is_array a && is_array b && is_reference (component a)) (is_reference (component b)) j in
      let q = and_parts (is_array a && is_array b) (is_reference (component a)) p.0 in
      let o = and_parts (is_array a) (is_array b) q.0 in
      let k : 0 < a.dims = ltb-true 0 a.dims o.0 in
      array_common a b (common_at image n (component a) (component b)) k (ltb-true 0 b.dims o.1) (inner q.1 p.1 k)
  component_by n a b r s apart inner false j = flat_by a b r s apart j (is_array a || is_array b) refl

  equal_by : (n : ℕ) (a b : Ty) → is_reference a ≡ true → is_reference b ≡ true → (is_reference (component a) ≡ true → is_reference (component b) ≡ true → 0 < a.dims → IsCommon image (component a) (component b) (common_at image n (component a) (component b))) → (q : Bool) → ty_eq a b ≡ q → IsCommon image a b (elim q [ true ↦ a | false ↦ elim (joins_by_component a b) [ true ↦ array_of (common_at image n (component a) (component b)) | false ↦ common_flat image a b ] ])
  equal_by n a b r s inner true e = record { reference = r; first = sub_same image h a; second = subst (λ (z : Ty). sub image z a ≡ true) (ty_is a b e) (sub_same image h a); least = λ f u v. u }
  equal_by n a b r s inner false e = component_by n a b r s (λ same. (let q : ty_eq a b ≡ true = ty_equal a b same in cc)) inner (joins_by_component a b) refl

  common_from : (n : ℕ) (a b : Ty) → a.dims < n → is_reference a ≡ true → is_reference b ≡ true → IsCommon image a b (common_at image n a b)
  common_from zero a b l r s = absurd (omega arith)
  common_from (suc n) a b l r s = equal_by n a b r s (λ p q k. common_from n (component a) (component b) (omega (arith, l, k)) p q) (ty_eq a b) refl

  pub super_common : (a b : Ty) → is_reference a ≡ true → is_reference b ≡ true → IsCommon image a b (common_super image a b)
  unfolding common_super
  super_common a b r s = common_from (suc a.dims) a b (omega arith) r s
