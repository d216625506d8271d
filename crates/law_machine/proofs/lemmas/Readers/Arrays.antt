-- Reads of arrays find what they want.
use Rattle.std.proofs.Common.{◌≡◌, ◌⊎◌, inl, inr, ℕ, zero, suc, List, Bool, true, false, Some, refl, ap, ◌∙◌, subst, sym}
use Rattle.std.proofs.lemmas.Bool.{and_parts, or_cases, or_left, or_right}
use Rattle.std.specs.Prelude.{◌&&◌, ◌||◌, nat_eq}
use Rattle.dv_defs.specs.declared.names.Base.{Base}
use Rattle.dv_defs.specs.declared.names.Base.TheVariants as base
use Rattle.dv_defs.specs.declared.names.Ty.{Ty}
use Rattle.dv_defs.specs.Images.{Image}
use Rattle.dv_machine.specs.Value.{Value}
use Rattle.dv_machine.specs.Value as v
use Rattle.dv_machine.specs.Kind.{Kind}
use Rattle.dv_machine.specs.Kind as kind
use Rattle.dv_typing.specs.declared.typing.RegType.{RegType}
use Rattle.dv_typing.specs.declared.typing.RegType.TheVariants as ty
use Rattle.dv_defs.specs.Parts.{Suffix}
use Rattle.dv_defs.specs.Names.{string_name, class_name}
use Rattle.dv_defs.specs.Types.{is_array, is_class_base, is_reference, base_eq, component, is_base, of_class}
use Rattle.dv_defs.specs.Pools.{class_type}
use Rattle.dv_defs.specs.Order.{instance, fits, implements}
use Rattle.dv_typing.specs.Statics.{is_of_suffix}
use Rattle.dv_typing.specs.Demands.{is_array_of}
use Rattle.dv_machine.specs.Heap.{Heap, kind_of, kind_type}
use Rattle.dv_machine.specs.State.{read_array, is_array_kind}
use Rattle.dv_machine.specs.Conforming.{Own, Conforms}
use Rattle.law_types.specs.Hierarchy.{IsOrder}
use Rattle.law_machine.specs.Premises.{HoldsOf}
use Rattle.law_machine.specs.Reading.{IsArrayOf, IsArrayOrNull, GoesDown, ReadsArray, ElementTestsGoDown}
use Rattle.law_types.proofs.Facts.{no}
use Rattle.law_types.proofs.Demanded.{demanded}
use Rattle.law_types.proofs.Types.{IsUnder, type_is, under_reference}
use Rattle.law_machine.proofs.lemmas.Readers.Plain.{where_holds, tested_there}
use Rattle.law_types.proofs.Equal.{base_plain}

-- ---- what tests of elements take

-- nothing but itself is under a type that is no reference
no_class : (t : Base) (name : List ℕ) (b : Base) → t ≡ base.Class name → is_class_base b ≡ false → base_eq t b ≡ true → ⊥
no_class t name b e p q = no (sym (subst (λ z. is_class_base z ≡ false) e (base_plain t b p q)))

module _ (image : Image) where
  base_down : (b : Base) → is_class_base b ≡ false → GoesDown image (is_base b)
  unfolding instance
  base_down b p s t e f = by_under (type_is image (implements image) s t e)
    where
      by_under : (s ≡ t) ⊎ IsUnder image (implements image) s t → is_base b s ≡ true
      by_under (inl q) = ap (is_base b) q ∙ f
      by_under (inr u) = absurd (no_class t.base u.name b u.is_class p (and_parts (nat_eq t.dims 0) (base_eq t.base b) f).1)

  reference_down : GoesDown image is_reference
  unfolding instance
  reference_down s t e f = under_reference image (implements image) s t e f

  either_down : (f g : Ty → Bool) → GoesDown image f → GoesDown image g → GoesDown image (λ t. f t || g t)
  either_down f g h k s t e q = by_side (or_cases (f t) (g t) q)
    where
      by_side : (f t ≡ true) ⊎ (g t ≡ true) → (f s || g s) ≡ true
      by_side (inl p) = or_left (f s) (g s) (h s t e p)
      by_side (inr p) = or_right (f s) (g s) (k s t e p)

  where_down : (b : Bool) (f : Ty → Bool) → GoesDown image f → GoesDown image (λ t. b && f t)
  where_down true f h s t e q = h s t e q
  where_down false f h s t e q = no q

  pub tests_go_down : ElementTestsGoDown image
  tests_go_down = record {
    any = λ s t e f. refl;
    suffix = by_suffix;
    fill = λ n.
        either_down _ _
        (either_down _ _
        (either_down _ _ (where_down (nat_eq n 1) _ (either_down (is_base base.Z) (is_base base.B) (base_down base.Z refl) (base_down base.B refl))) (where_down (nat_eq n 2) _ (either_down (is_base base.C) (is_base base.S) (base_down base.C refl) (base_down base.S refl))))
        (where_down (nat_eq n 4) (is_base base.I) (base_down base.I refl)))
        (where_down (nat_eq n 8) (is_base base.J) (base_down base.J refl));
  }
    where
      by_suffix : (s : Suffix) → GoesDown image (is_of_suffix s)
      by_suffix Suffix.Int = base_down base.I refl
      by_suffix Suffix.Long = base_down base.J refl
      by_suffix Suffix.Object = reference_down
      by_suffix Suffix.Boolean = base_down base.Z refl
      by_suffix Suffix.Byte = base_down base.B refl
      by_suffix Suffix.Char = base_down base.C refl
      by_suffix Suffix.Short = base_down base.S refl

-- ---- the read

module _ (image : Image) (order : IsOrder image) (heap : Heap) (own : Own) (good : Ty → Bool) (down : GoesDown image good) where
  -- an object that fits an array type is such an array
  array_there : (o : ℕ) (c : Ty) (k : Kind) → kind_of heap (suc o) ≡ Some k → fits image (kind_type image k) c ≡ true → is_array c ≡ true → good (component c) ≡ true → IsArrayOf image heap good (ty.Class c) (suc o)
  array_there o c (kind.Array t) e f a g =
      let q = order.components t c f a in
      record {
        type = t;
        has_kind = e;
        takes = down (component t) (component c) q.1 g;
        under = λ d w. subst (λ z. instance image (component t) (component z) ≡ true) (class_same c d w) q.1;
      }
    where
      class_same : (c d : Ty) → ty.Class c ≡ ty.Class d → c ≡ d
      class_same c d w = cc
  array_there o c (kind.Object d) e f a g = no (order.components (class_type image d.0) c f a).0
  array_there o c (kind.Str d) e f a g = no (order.components (of_class string_name) c f a).0
  array_there o c (kind.ClassOf d) e f a g = no (order.components (of_class class_name) c f a).0

  array_holds : (x : Value) (t : RegType) → is_array_of good t ≡ true → Conforms image heap own x t → HoldsOf (IsArrayOrNull image heap good t) (read_array good heap x)
  array_holds v.Zero t e c = tt
  array_holds (v.Ref zero) (ty.Class d) e c = tt
  array_holds (v.Ref (suc o)) (ty.Class d) e c =
      let q = and_parts (is_array d) (good (component d)) e in
      let k = array_there o d c.object.kind c.object.has_kind c.fits q.0 q.1 in
      where_holds image heap own (IsArrayOrNull image heap good (ty.Class d)) _ (suc o) (tested_there image heap own (is_array_kind good) o (kind.Array k.type) k.has_kind k.takes) k
  array_holds x ty.Zero e c = absurd c
  array_holds x (ty.Class d) e c = absurd c
  array_holds x t e c = no e

pub reads_array : ReadsArray
reads_array image heap own xs ts k good order down h d = array_holds image order heap own good down _ _ (demanded _ _ d) (h k)
