-- What transfer makes of register types, pending results and caught types goes along the order.
use Rattle.std.proofs.Common.{◌≡◌, ℕ, Bool, true, false, ◌&&◌, Option, Some, None, refl, sym, subst}
use Rattle.std.proofs.lemmas.Bool.{and_parts, and_from, eqb-true, ltb-true}
use Rattle.dv_defs.specs.declared.names.Ty.{Ty}
use Rattle.dv_defs.specs.Images.{Image}
use Rattle.dv_typing.specs.declared.typing.RegType.{RegType}
use Rattle.dv_typing.specs.declared.typing.RegType.TheVariants as ty
use Rattle.dv_typing.specs.declared.typing.PendingType.{PendingType}
use Rattle.dv_typing.specs.declared.typing.PendingType.TheVariants as pend
use Rattle.dv_defs.specs.Types.{is_array, is_reference, component}
use Rattle.dv_defs.specs.Order.{sub, extends}
use Rattle.dv_typing.specs.RegTypes.{Types, under, UnderPending, UnderCaught}
use Rattle.dv_typing.specs.Transfer.{write_two, write_long, copied_int, copied_object, result_int, result_ref, after_result_long, caught_type, replaced, replaced_this, lost, object_element}
use Rattle.law_types.specs.Hierarchy.{IsHierarchy, IsOrder}
use Rattle.law_types.proofs.Facts.{no}
use Rattle.law_types.proofs.Types.{under_component, under_reference}
use Rattle.law_types.proofs.Laws.{extends_order, types_are_ordered}
use Rattle.law_types.proofs.States.{under_same}
use Rattle.law_types.proofs.Regs.{AreBelow, write_two_below, write_long_below}

-- ---- what is copied

pub int_below : (image : Image) (t s : RegType) → under image s t ≡ true → under image (copied_int s) (copied_int t) ≡ true
int_below image ty.Zero ty.Zero e = refl
int_below image ty.Zero s e = no e
int_below image ty.Int ty.Zero e = refl
int_below image ty.Int ty.Int e = refl
int_below image ty.Int s e = no e
int_below image t s e = refl

pub object_below : (image : Image) (t s : RegType) → under image s t ≡ true → under image (copied_object s) (copied_object t) ≡ true
object_below image ty.Zero ty.Zero e = refl
object_below image ty.Zero s e = no e
object_below image (ty.Class d) ty.Zero e = refl
object_below image (ty.Class d) (ty.Class c) e = e
object_below image (ty.Class d) s e = no e
object_below image (ty.Uninit b) (ty.Uninit a) e = e
object_below image (ty.Uninit b) s e = no e
object_below image ty.UninitThis ty.UninitThis e = refl
object_below image ty.UninitThis s e = no e
object_below image t s e = refl

-- ---- what a constructor makes of registers

pub lost_below : (image : Image) (t s : RegType) → under image s t ≡ true → under image (lost s) (lost t) ≡ true
lost_below image ty.Conflict s e = refl
lost_below image (ty.Uninit b) s e = refl
lost_below image ty.UninitThis s e = refl
lost_below image t (ty.Uninit a) e = no e
lost_below image t ty.UninitThis e = no e
lost_below image t s e = e

pub replaced_lost : (image : Image) (a : ℕ) (x t s : RegType) → under image s t ≡ true → under image (replaced a x s) (lost t) ≡ true
replaced_lost image a x ty.Conflict s e = refl
replaced_lost image a x (ty.Uninit b) s e = refl
replaced_lost image a x ty.UninitThis s e = refl
replaced_lost image a x t (ty.Uninit b) e = no e
replaced_lost image a x t ty.UninitThis e = no e
replaced_lost image a x t s e = e

pub this_lost : (image : Image) (x t s : RegType) → under image s t ≡ true → under image (replaced_this x s) (lost t) ≡ true
this_lost image x ty.Conflict s e = refl
this_lost image x (ty.Uninit b) s e = refl
this_lost image x ty.UninitThis s e = refl
this_lost image x t (ty.Uninit b) e = no e
this_lost image x t ty.UninitThis e = no e
this_lost image x t s e = e

module _ (image : Image) (h : IsHierarchy image) where
  ord : IsOrder image
  ord = types_are_ordered image h

  pub replaced_below : (a : ℕ) (x t s : RegType) → under image s t ≡ true → under image (replaced a x s) (replaced a x t) ≡ true
  replaced_below a x ty.Conflict s e = refl
  replaced_below a x (ty.Uninit b) (ty.Uninit c) e = subst (λ (z : ℕ). under image (replaced a x (ty.Uninit c)) (replaced a x (ty.Uninit z)) ≡ true) (eqb-true c b e) (under_same image ord (replaced a x (ty.Uninit c)))
  replaced_below a x (ty.Uninit b) s e = no e
  replaced_below a x t (ty.Uninit c) e = no e
  replaced_below a x t s e = e

  pub this_below : (x t s : RegType) → under image s t ≡ true → under image (replaced_this x s) (replaced_this x t) ≡ true
  this_below x ty.Conflict s e = refl
  this_below x ty.UninitThis ty.UninitThis e = under_same image ord x
  this_below x ty.UninitThis s e = no e
  this_below x t ty.UninitThis e = no e
  this_below x t s e = e

  -- ---- elements of arrays

  pub sub_component : (c d : Ty) → sub image c d ≡ true → is_array d ≡ true → (is_array c ≡ true) × (sub image (component c) (component d) ≡ true)
  unfolding sub
  sub_component c d u a = under_component image (extends image) (extends_order image h) c d u (ltb-true 0 d.dims a)

  pub sub_reference : (c d : Ty) → sub image c d ≡ true → is_reference d ≡ true → is_reference c ≡ true
  unfolding sub
  sub_reference c d u r = under_reference image (extends image) c d u r

  element_below : (c d : Ty) (b : Bool) → sub image c d ≡ true → (is_array d && is_reference (component d)) ≡ b → under image (object_element (ty.Class c)) (elim b [ true ↦ ty.Class (component d) | false ↦ ty.Conflict ]) ≡ true
  element_below c d false u e = refl
  element_below c d true u e =
      let p = and_parts (is_array d) (is_reference (component d)) e in
      let q = sub_component c d u p.0 in
      both (is_array c && is_reference (component c)) (and_from (is_array c) (is_reference (component c)) q.0 (sub_reference (component c) (component d) q.1 p.1)) q.1
    where
      both : (z : Bool) → z ≡ true → sub image (component c) (component d) ≡ true → under image (elim z [ true ↦ ty.Class (component c) | false ↦ ty.Conflict ]) (ty.Class (component d)) ≡ true
      both true r v = v
      both false r v = no r

  zero_element : (d : Ty) (b : Bool) → under image ty.Zero (elim b [ true ↦ ty.Class (component d) | false ↦ ty.Conflict ]) ≡ true
  zero_element d true = refl
  zero_element d false = refl

  pub elements_below : (t s : RegType) → under image s t ≡ true → under image (object_element s) (object_element t) ≡ true
  elements_below ty.Zero ty.Zero e = refl
  elements_below ty.Zero s e = no e
  elements_below (ty.Class d) ty.Zero e = zero_element d (is_array d && is_reference (component d))
  elements_below (ty.Class d) (ty.Class c) e = element_below c d (is_array d && is_reference (component d)) e refl
  elements_below (ty.Class d) s e = no e
  elements_below t s e = refl

  -- ---- pending results and caught types

  pub result_int_below : (q r : PendingType) → UnderPending r q → under image (result_int r) (result_int q) ≡ true
  result_int_below pend.None r u = refl
  result_int_below (pend.One t) r u = subst (λ (z : PendingType). under image (result_int r) (result_int z) ≡ true) u (under_same image ord (result_int r))
  result_int_below pend.Long r u = refl

  pub result_ref_below : (q r : PendingType) → UnderPending r q → under image (result_ref r) (result_ref q) ≡ true
  result_ref_below pend.None r u = refl
  result_ref_below (pend.One t) r u = subst (λ (z : PendingType). under image (result_ref r) (result_ref z) ≡ true) u (under_same image ord (result_ref r))
  result_ref_below pend.Long r u = refl

  lost_long : (ss ts : Types) (a : ℕ) (r : PendingType) → AreBelow image ss ts → AreBelow image (after_result_long ss a r) (write_two ts a ty.Conflict ty.Conflict)
  lost_long ss ts a pend.Long b = write_two_below image ss ts a ty.LongLo ty.LongHi ty.Conflict ty.Conflict b refl refl
  lost_long ss ts a pend.None b = write_two_below image ss ts a ty.Conflict ty.Conflict ty.Conflict ty.Conflict b refl refl
  lost_long ss ts a (pend.One t) b = write_two_below image ss ts a ty.Conflict ty.Conflict ty.Conflict ty.Conflict b refl refl

  pub result_long_below : (ss ts : Types) (a : ℕ) (q r : PendingType) → AreBelow image ss ts → UnderPending r q → AreBelow image (after_result_long ss a r) (after_result_long ts a q)
  result_long_below ss ts a pend.None r b u = lost_long ss ts a r b
  result_long_below ss ts a (pend.One t) r b u = lost_long ss ts a r b
  result_long_below ss ts a pend.Long r b u = subst (λ (z : PendingType). AreBelow image (after_result_long ss a z) (write_long ts a)) (sym u) (write_long_below image ss ts a b)

  pub caught_below : (d c : Option Ty) → UnderCaught image c d → under image (caught_type c) (caught_type d) ≡ true
  caught_below None c u = refl
  caught_below (Some d) None u = absurd u
  caught_below (Some d) (Some c) u = u
