-- Demands that a state above meets are met by one below it.
use Rattle.std.proofs.Common.{◌≡◌, inl, inr, ℕ, suc, Bool, true, false, ◌&&◌, ◌||◌, not, Option, Some, None, refl, sym, subst}
use Rattle.std.specs.Prelude.{nat_eq, is_some}
use Rattle.std.proofs.lemmas.Bool.{and_parts, and_from, or_cases}
use Rattle.dv_defs.specs.declared.names.Base.{Base}
use Rattle.dv_defs.specs.declared.names.Base.TheVariants as base
use Rattle.dv_defs.specs.declared.names.Ty.{Ty}
use Rattle.dv_defs.specs.Images.{Image}
use Rattle.dv_typing.specs.declared.typing.RegType.{RegType}
use Rattle.dv_typing.specs.declared.typing.RegType.TheVariants as ty
use Rattle.dv_typing.specs.declared.typing.PendingType.{PendingType}
use Rattle.dv_typing.specs.declared.typing.PendingType.TheVariants as pend
use Rattle.dv_defs.specs.Parts.{Suffix}
use Rattle.dv_defs.specs.Types.{base_eq, is_array, is_class_base, is_reference, is_long, is_base, component}
use Rattle.dv_defs.specs.Order.{sub, extends, assignable}
use Rattle.dv_typing.specs.Statics.{is_of_suffix}
use Rattle.dv_typing.specs.RegTypes.{Types, type_at, under, UnderPending, UnderCaught}
use Rattle.dv_typing.specs.Demands.{Demand, first, demand, is_int, is_lo, is_hi, is_ref, is_movable, is_assignable, is_array_of, int, long, ref, ref_to, array, single_for, value_for, is_fill_type, any_type}
use Rattle.law_types.specs.Hierarchy.{IsHierarchy}
use Rattle.law_types.proofs.Facts.{no}
use Rattle.law_types.proofs.Equal.{base_plain}
use Rattle.law_types.proofs.Types.{type_is}
use Rattle.law_types.proofs.Laws.{sub_trans}
use Rattle.law_types.proofs.Regs.{AreBelow}
use Rattle.law_types.proofs.Demanded.{first_none, met, test_met, demanded}
use Rattle.law_types.proofs.Interfaces.{assignable_is, assignable_open, assignable_closed}
use Rattle.law_types.proofs.Changed.{sub_component, sub_reference}
use Rattle.dv_defs.specs.declared.faults.Rule.{Rule}
use Rattle.dv_defs.specs.declared.faults.Rule.TheVariants as rule

-- where the first demand is met, the second is
abbrev pub Along : Demand → Demand → Type 0
Along d e = d ≡ None → e ≡ None

pub first_along : (d e c f : Demand) → Along d c → Along e f → Along (first d e) (first c f)
first_along d e c f a b h = let p = first_none d e h in met c f (a p.0) (b p.1)

pub demand_along : (a b : Bool) (n : Rule) → (a ≡ true → b ≡ true) → Along (demand a n) (demand b n)
demand_along a b n h e = test_met b n (h (demanded a n e))

pub same_along : (d : Demand) → Along d d
same_along d e = e

-- ---- one register

pub int_along : (image : Image) (t s : RegType) → under image s t ≡ true → is_int t ≡ true → is_int s ≡ true
int_along image ty.Zero ty.Zero e i = refl
int_along image ty.Zero s e i = no e
int_along image ty.Int ty.Zero e i = refl
int_along image ty.Int ty.Int e i = refl
int_along image ty.Int s e i = no e
int_along image t s e i = no i

lo_along : (image : Image) (t s : RegType) → under image s t ≡ true → is_lo t ≡ true → is_lo s ≡ true
lo_along image ty.LongLo ty.LongLo e i = refl
lo_along image ty.LongLo s e i = no e
lo_along image t s e i = no i

hi_along : (image : Image) (t s : RegType) → under image s t ≡ true → is_hi t ≡ true → is_hi s ≡ true
hi_along image ty.LongHi ty.LongHi e i = refl
hi_along image ty.LongHi s e i = no e
hi_along image t s e i = no i

pub ref_along : (image : Image) (t s : RegType) → under image s t ≡ true → is_ref t ≡ true → is_ref s ≡ true
ref_along image ty.Zero ty.Zero e i = refl
ref_along image ty.Zero s e i = no e
ref_along image (ty.Class d) ty.Zero e i = refl
ref_along image (ty.Class d) (ty.Class c) e i = refl
ref_along image (ty.Class d) s e i = no e
ref_along image t s e i = no i

pub movable_along : (image : Image) (t s : RegType) → under image s t ≡ true → is_movable t ≡ true → is_movable s ≡ true
movable_along image ty.Zero ty.Zero e i = refl
movable_along image ty.Zero s e i = no e
movable_along image (ty.Class d) ty.Zero e i = refl
movable_along image (ty.Class d) (ty.Class c) e i = refl
movable_along image (ty.Class d) s e i = no e
movable_along image (ty.Uninit b) (ty.Uninit a) e i = refl
movable_along image (ty.Uninit b) s e i = no e
movable_along image ty.UninitThis ty.UninitThis e i = refl
movable_along image ty.UninitThis s e i = no e
movable_along image t s e i = no i

-- ---- pending results

pub pending_along : (f : PendingType → Bool) → f pend.None ≡ false → (q r : PendingType) → UnderPending r q → f q ≡ true → f r ≡ true
pending_along f none pend.None r u e = absurd (cc)
pending_along f none (pend.One t) r u e = subst (λ (z : PendingType). f z ≡ true) (sym u) e
pending_along f none pend.Long r u e = subst (λ (z : PendingType). f z ≡ true) (sym u) e

pub caught_along : (image : Image) (d c : Option Ty) → UnderCaught image c d → is_some d ≡ true → is_some c ≡ true
caught_along image None c u e = no e
caught_along image (Some d) None u e = absurd u
caught_along image (Some d) (Some c) u e = refl

pub not_along : (p q : Bool) → (p ≡ true → q ≡ true) → not q ≡ true → not p ≡ true
not_along false q h e = refl
not_along true true h e = no e
not_along true false h e = no (h refl)

-- ---- types of elements

primitive : (b : Base) (d : Ty) → is_class_base b ≡ false → is_base b d ≡ true → is_class_base d.base ≡ false
primitive b d p e = base_plain d.base b p (and_parts (nat_eq d.dims 0) (base_eq d.base b) e).1

either_primitive : (a b : Base) (d : Ty) (w : Bool) → is_class_base a ≡ false → is_class_base b ≡ false → (w && (is_base a d || is_base b d)) ≡ true → is_class_base d.base ≡ false
either_primitive a b d w p q e = elim (or_cases (is_base a d) (is_base b d) (and_parts w (is_base a d || is_base b d) e).1) [ inl x ↦ primitive a d p x | inr y ↦ primitive b d q y ]

fill_primitive : (w : ℕ) (d : Ty) → is_fill_type w d ≡ true → is_class_base d.base ≡ false
fill_primitive w d e =
    let one : Bool = nat_eq w 1 && (is_base base.Z d || is_base base.B d) in
    let two : Bool = nat_eq w 2 && (is_base base.C d || is_base base.S d) in
    let four : Bool = nat_eq w 4 && is_base base.I d in
    let eight : Bool = nat_eq w 8 && is_base base.J d in
    elim (or_cases (one || two || four) eight e) [
      | inr x ↦ primitive base.J d refl (and_parts (nat_eq w 8) (is_base base.J d) x).1
      | inl x ↦ elim (or_cases (one || two) four x) [
        | inr y ↦ primitive base.I d refl (and_parts (nat_eq w 4) (is_base base.I d) y).1
        | inl y ↦ elim (or_cases one two y) [
          | inl z ↦ either_primitive base.Z base.B d (nat_eq w 1) refl refl z
          | inr z ↦ either_primitive base.C base.S d (nat_eq w 2) refl refl z
        ]
      ]
    ]

module _ (image : Image) (h : IsHierarchy image) where
  -- under a primitive type is that type alone
  sub_primitive : (c d : Ty) → sub image c d ≡ true → is_class_base d.base ≡ false → c ≡ d
  unfolding sub
  sub_primitive c d u p = elim (type_is image (extends image) c d u) [
    | inl same ↦ same
    | inr v ↦ absurd (let q : is_class_base d.base ≡ true = subst (λ (z : Base). is_class_base z ≡ true) (sym v.is_class) refl in cc)
  ]

  -- a test of elements that goes down the order
  abbrev pub GoesDown : (Ty → Bool) → Type 0
  GoesDown good = (c d : Ty) → sub image c d ≡ true → good d ≡ true → good c ≡ true

  down_primitive : (good : Ty → Bool) → ((d : Ty) → good d ≡ true → is_class_base d.base ≡ false) → GoesDown good
  down_primitive good p c d u e = subst (λ (z : Ty). good z ≡ true) (sym (sub_primitive c d u (p d e))) e

  pub any_down : GoesDown any_type
  any_down c d u e = refl

  pub fill_down : (w : ℕ) → GoesDown (is_fill_type w)
  fill_down w = down_primitive (is_fill_type w) (fill_primitive w)

  pub suffix_down : (x : Suffix) → GoesDown (is_of_suffix x)
  suffix_down Suffix.Object = sub_reference image h
  suffix_down Suffix.Int = down_primitive (is_base base.I) (λ d e. primitive base.I d refl e)
  suffix_down Suffix.Long = down_primitive (is_base base.J) (λ d e. primitive base.J d refl e)
  suffix_down Suffix.Boolean = down_primitive (is_base base.Z) (λ d e. primitive base.Z d refl e)
  suffix_down Suffix.Byte = down_primitive (is_base base.B) (λ d e. primitive base.B d refl e)
  suffix_down Suffix.Char = down_primitive (is_base base.C) (λ d e. primitive base.C d refl e)
  suffix_down Suffix.Short = down_primitive (is_base base.S) (λ d e. primitive base.S d refl e)

  array_along : (good : Ty → Bool) → GoesDown good → (t s : RegType) → under image s t ≡ true → is_array_of good t ≡ true → is_array_of good s ≡ true
  array_along good down ty.Zero ty.Zero e a = refl
  array_along good down ty.Zero s e a = no e
  array_along good down (ty.Class d) ty.Zero e a = refl
  array_along good down (ty.Class d) (ty.Class c) e a =
      let p = and_parts (is_array d) (good (component d)) a in
      let q = sub_component image h c d e p.0 in
      and_from (is_array c) (good (component c)) q.0 (down (component c) (component d) q.1 p.1)
  array_along good down (ty.Class d) s e a = no e
  array_along good down t s e a = no a

  -- ---- assignable

  class_assignable : (c d f : Ty) → sub image c d ≡ true → assignable image d f ≡ true → assignable image c f ≡ true
  class_assignable c d f u a = elim (assignable_is image d f a) [
    | inl p ↦ assignable_open image c f p.0 (sub_reference image h c d u p.1)
    | inr p ↦ assignable_closed image c f p.0 (sub_trans image h c d f u p.1)
  ]

  assignable_along : (f : Ty) (t s : RegType) → under image s t ≡ true → is_ref t ≡ true → is_assignable image t f ≡ true → is_assignable image s f ≡ true
  assignable_along f ty.Zero ty.Zero e r a = refl
  assignable_along f ty.Zero s e r a = no e
  assignable_along f (ty.Class d) ty.Zero e r a = refl
  assignable_along f (ty.Class d) (ty.Class c) e r a = class_assignable c d f e a
  assignable_along f (ty.Class d) s e r a = no e
  assignable_along f t s e r a = no r

  -- ---- demands on registers

  module _ (ss ts : Types) (b : AreBelow image ss ts) where
    pub int_met : (k : ℕ) → Along (int ts k) (int ss k)
    int_met k = demand_along (is_int (type_at ts k)) (is_int (type_at ss k)) (rule.V 2) (int_along image (type_at ts k) (type_at ss k) (b.each k))

    pub long_met : (k : ℕ) → Along (long ts k) (long ss k)
    long_met k = demand_along (is_lo (type_at ts k) && is_hi (type_at ts (suc k))) (is_lo (type_at ss k) && is_hi (type_at ss (suc k))) (rule.V 3)
        (λ e. let p = and_parts (is_lo (type_at ts k)) (is_hi (type_at ts (suc k))) e in
        and_from (is_lo (type_at ss k)) (is_hi (type_at ss (suc k))) (lo_along image (type_at ts k) (type_at ss k) (b.each k) p.0) (hi_along image (type_at ts (suc k)) (type_at ss (suc k)) (b.each (suc k)) p.1))

    pub is_ref_met : (k : ℕ) → is_ref (type_at ts k) ≡ true → is_ref (type_at ss k) ≡ true
    is_ref_met k = ref_along image (type_at ts k) (type_at ss k) (b.each k)

    pub ref_met : (k : ℕ) → Along (ref ts k) (ref ss k)
    ref_met k = demand_along (is_ref (type_at ts k)) (is_ref (type_at ss k)) (rule.V 4) (is_ref_met k)

    pub ref_to_met : (k : ℕ) (f : Ty) → Along (ref_to image ts k f) (ref_to image ss k f)
    ref_to_met k f e =
        let p = first_none (ref ts k) (demand (is_assignable image (type_at ts k) f) (rule.V 5)) e in
        let r : is_ref (type_at ts k) ≡ true = demanded (is_ref (type_at ts k)) (rule.V 4) p.0 in
        met (ref ss k) (demand (is_assignable image (type_at ss k) f) (rule.V 5)) (ref_met k p.0)
        (test_met (is_assignable image (type_at ss k) f) (rule.V 5) (assignable_along f (type_at ts k) (type_at ss k) (b.each k) r (demanded (is_assignable image (type_at ts k) f) (rule.V 5) p.1)))

    pub array_met : (k : ℕ) (good : Ty → Bool) → GoesDown good → Along (array ts k good) (array ss k good)
    array_met k good down = demand_along (is_array_of good (type_at ts k)) (is_array_of good (type_at ss k)) (rule.V 10) (array_along good down (type_at ts k) (type_at ss k) (b.each k))

    pub single_met : (k : ℕ) (f : Ty) → Along (single_for image ts k f) (single_for image ss k f)
    single_met k f = by_sort (is_reference f)
      where
        by_sort : (r : Bool) → Along (elim r [ true ↦ ref_to image ts k f | false ↦ int ts k ]) (elim r [ true ↦ ref_to image ss k f | false ↦ int ss k ])
        by_sort true = ref_to_met k f
        by_sort false = int_met k

    pub value_met : (k : ℕ) (f : Ty) → Along (value_for image ts k f) (value_for image ss k f)
    value_met k f = by_width (is_long f)
      where
        by_width : (r : Bool) → Along (elim r [ true ↦ long ts k | false ↦ single_for image ts k f ]) (elim r [ true ↦ long ss k | false ↦ single_for image ss k f ])
        by_width true = long_met k
        by_width false = single_met k f
