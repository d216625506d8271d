-- What is above another type ranks less.
use Rattle.std.proofs.Common.{◌≡◌, ◌⊎◌, inl, inr, ℕ, zero, suc, ◌+◌, ◌*◌, ◌<◌, ◌≤◌, List, length, true, ◌&&◌, Option, Some, None, refl, sym, ap, ◌∙◌, subst, arith}
use Rattle.std.specs.Prelude.{bytes_eq}
use Rattle.std.proofs.lemmas.Bool.{and_parts}
use Rattle.std.proofs.Math.Nat.{mul-le-mul_left}
use Rattle.dv_defs.specs.declared.names.Base.{Base}
use Rattle.dv_defs.specs.declared.names.Base.TheVariants as base
use Rattle.dv_defs.specs.declared.names.Ty.{Ty}
use Rattle.dv_defs.specs.Images.{Image}
use Rattle.dv_defs.specs.Names.{object_name}
use Rattle.dv_defs.specs.Types.{is_class_base}
use Rattle.dv_defs.specs.Pools.{class_named, name_at, supers}
use Rattle.dv_defs.specs.Op.{class_of_base}
use Rattle.dv_defs.specs.Order.{class_under, under_class, sub, extends}
use Rattle.law_types.specs.Hierarchy.{IsHierarchy}
use Rattle.law_types.proofs.Facts.{either}
use Rattle.law_types.proofs.Equal.{ty_from}
use Rattle.law_types.proofs.Types.{base_is_class, type_is, under_is, flat_under, AreUnder}
use Rattle.law_types.proofs.Walks.{named_inside, named_is}
use Rattle.law_flow.specs.Fitting.{base_rank, type_rank, ranks}
use Rattle.law_flow.specs.Laws.{HasObject}
use Rattle.law_flow.proofs.Depths.{walk_short, extends_short, object_short}

-- ---- ranks of bases

-- the rank of a base whose class is looked up
abbrev found_rank : Image → Option ℕ → ℕ
found_rank image o = elim o [ None ↦ suc (length image.classes) | Some c ↦ length (supers image c) ]

found_bounded : (image : Image) (o : Option ℕ) → found_rank image o < length image.classes + 2
found_bounded image None = omega arith
found_bounded image (Some c) = (let l = walk_short image (length image.classes) (Some c) in omega (arith, l))

pub base_bounded : (image : Image) (b : Base) → base_rank image b < length image.classes + 2
base_bounded image b = found_bounded image (class_of_base image b)

-- ---- ranks of types

-- more dimensions outweigh each base
deeper : (w m n r q k : ℕ) → m ≡ suc k + n → r < w → n * w + r < m * w + q
deeper w m n r q k e l = subst (λ (z : ℕ). n * w + r < z * w + q) (sym e) (omega (arith, l))

-- of as many, the base decides
level : (w m n r q : ℕ) → m ≡ n → r < q → n * w + r < m * w + q
level w m n r q e l = subst (λ (z : ℕ). n * w + r < z * w + q) (sym e) (omega (arith, l))

pub rank_bounded : (image : Image) (most : ℕ) (t : Ty) → t.dims ≤ most → type_rank image t < ranks image most
rank_bounded image most t l =
    let b = base_bounded image t.base in
    omega (arith, b, mul-le-mul_left (length image.classes + 2) l)

module _ (image : Image) (h : IsHierarchy image) (has : HasObject image) where
  -- Object is above each other class
  top_base : (o : ℕ) (x : List ℕ) (q : Option ℕ) → class_named image object_name ≡ Some o → class_named image x ≡ q → (x ≡ object_name) ⊎ (found_rank image (Some o) < found_rank image q)
  top_base o x None e p = inr (let l = walk_short image (length image.classes) (Some o) in omega (arith, l))
  top_base o x (Some c) e p = elim (object_short image h o c e (named_inside image x c p)) [
    | inl same ↦ inl (sym (named_is image x c p) ∙ (ap (λ (k : ℕ). name_at image k) same ∙ named_is image object_name o e))
    | inr less ↦ inr less
  ]

  top_rank : (a : Base) (d : List ℕ) → is_class_base a ≡ true → d ≡ object_name → (a ≡ base.Class d) ⊎ (base_rank image (base.Class d) < base_rank image a)
  top_rank a d c e =
      let (x, is_class) = base_is_class a c in
      let found : class_named image d ≡ Some has.0 = subst (λ (z : List ℕ). class_named image z ≡ Some has.0) (sym e) has.1 in
      elim (top_base has.0 x (class_named image x) has.1 refl) [
        | inl same ↦ inl (is_class ∙ ap base.Class (same ∙ sym e))
        | inr less ↦ inr (subst (λ (z : Base). base_rank image (base.Class d) < base_rank image z) (sym is_class) (subst (λ (z : Option ℕ). found_rank image z < found_rank image (class_named image x)) (sym found) less))
      ]

  under_rank : (a : Base) (d : List ℕ) → AreUnder image (extends image) a d → (a ≡ base.Class d) ⊎ (base_rank image (base.Class d) < base_rank image a)
  under_rank a d u = elim (extends_short image h u.low u.high (named_inside image u.name u.low u.has_low) u.tested) [
    | inl same ↦ inl (u.is_class ∙ ap base.Class (sym (named_is image u.name u.low u.has_low) ∙ (ap (λ (k : ℕ). name_at image k) same ∙ named_is image d u.high u.has_high)))
    | inr less ↦ inr (subst (λ (z : Base). base_rank image (base.Class d) < base_rank image z) (sym u.is_class) (subst (λ (z : Option ℕ). found_rank image z < found_rank image (class_named image u.name)) (sym u.has_high) (subst (λ (z : Option ℕ). found_rank image (Some u.high) < found_rank image z) (sym u.has_low) less)))
  ]

  -- what is under a class without dimensions between names one
  under_is_class : (a : Base) (d : List ℕ) → under_class image (extends image) 0 a d ≡ true → is_class_base a ≡ true
  under_is_class a d u = elim (either (is_class_base a && bytes_eq d object_name) (class_under image (extends image) a d) u) [
    | inl top ↦ (and_parts (is_class_base a) (bytes_eq d object_name) top).0
    | inr under ↦ (let x = under_is image (extends image) a d under in subst (λ (z : Base). is_class_base z ≡ true) (sym x.is_class) refl)
  ]

  flat_rank : (a : Base) (d : List ℕ) → under_class image (extends image) 0 a d ≡ true → (a ≡ base.Class d) ⊎ (base_rank image (base.Class d) < base_rank image a)
  flat_rank a d u = elim (flat_under image (extends image) 0 a d refl u) [
    | inl top ↦ top_rank a d (under_is_class a d u) top
    | inr under ↦ under_rank a d under
  ]

  -- with as many dimensions
  level_rank : (s t : Ty) (d : List ℕ) → t.base ≡ base.Class d → s.dims ≡ t.dims → (s.base ≡ base.Class d) ⊎ (base_rank image (base.Class d) < base_rank image s.base) → (s ≡ t) ⊎ (type_rank image t < type_rank image s)
  level_rank s t d c e (inl same) = inl (ty_from s t e (same ∙ sym c))
  level_rank s t d c e (inr less) =
      let below : base_rank image t.base < base_rank image s.base = subst (λ (z : Base). base_rank image z < base_rank image s.base) (sym c) less in
      inr (level (length image.classes + 2) s.dims t.dims (base_rank image t.base) (base_rank image s.base) e below)

  under_rises : (s t : Ty) (d : List ℕ) (n : ℕ) → t.base ≡ base.Class d → s.dims ≡ n + t.dims → under_class image (extends image) n s.base d ≡ true → (s ≡ t) ⊎ (type_rank image t < type_rank image s)
  under_rises s t d zero c e u = level_rank s t d c (omega (arith, e)) (flat_rank s.base d u)
  under_rises s t d (suc k) c e u = inr (deeper (length image.classes + 2) s.dims t.dims (base_rank image t.base) (base_rank image s.base) k e (base_bounded image t.base))

  pub type_rises : (s t : Ty) → sub image s t ≡ true → (s ≡ t) ⊎ (type_rank image t < type_rank image s)
  unfolding sub
  type_rises s t e = elim (type_is image (extends image) s t e) [
    | inl same ↦ inl same
    | inr u ↦ under_rises s t u.name u.more u.is_class u.dims u.tested
  ]
