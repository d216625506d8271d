-- Transfer goes along the order of states.
use Rattle.std.proofs.Common.{◌≡◌, ℕ, List, Bool, true, false, refl, subst}
use Rattle.std.specs.Prelude.{map}
use Rattle.std.proofs.lemmas.Bool.{eqb-true}
use Rattle.dv_defs.specs.declared.names.Ty.{Ty}
use Rattle.dv_defs.specs.Images.{Image}
use Rattle.dv_typing.specs.declared.typing.RegType.{RegType}
use Rattle.dv_typing.specs.declared.typing.RegType.TheVariants as ty
use Rattle.dv_typing.specs.declared.typing.PendingType.{PendingType}
use Rattle.dv_typing.specs.declared.typing.PendingType.TheVariants as pend
use Rattle.dv_typing.specs.declared.typing.RegState.{RegState}
use Rattle.dv_defs.specs.Names.{string_name, class_name}
use Rattle.dv_defs.specs.Parts.{Suffix}
use Rattle.dv_defs.specs.Types.{of_class}
use Rattle.dv_defs.specs.Pools.{Method, is_constructor, own_type}
use Rattle.dv_defs.specs.Op.{Op, MoveInt, MoveLong, MoveObject, ResultInt, ResultLong, ResultObject, TakeCaught, Const, ConstLong, IntUnary, LongUnary, IntToLong, LongToInt, IntOp, LongOp, LongShift, CompareLong, IntDivide, LongDivide, ConstString, ConstClass, Cast, InstanceOf, ArrayLength, New, NewArray, Filled, ArrayGet, FieldGet, StaticGet, Invoke}
use Rattle.dv_typing.specs.RegTypes.{Types, type_at, under, IsBelow}
use Rattle.dv_typing.specs.Demands.{made_at}
use Rattle.dv_typing.specs.Transfer.{write_type, write_long, write_for, going, with_pending, copied_int, copied_object, const_type, result_int, result_ref, after_result_long, caught_type, replaced, replaced_this, lost, class_or_conflict, pending_of, after_constructor, first_of, after_invoke, object_element, after_get, out}
use Rattle.law_types.specs.Hierarchy.{IsHierarchy, IsOrder}
use Rattle.law_types.specs.Laws.{TransferIsMonotone}
use Rattle.law_types.proofs.Facts.{no}
use Rattle.law_types.proofs.Laws.{types_are_ordered}
use Rattle.law_types.proofs.States.{under_same, pending_same}
use Rattle.law_types.proofs.Regs.{AreBelow, write_below, write_long_below, write_for_below, map_below}
use Rattle.law_types.proofs.Changed.{int_below, object_below, lost_below, replaced_lost, this_lost, replaced_below, this_below, elements_below, result_int_below, result_ref_below, result_long_below, caught_below}

module _ (image : Image) (h : IsHierarchy image) where
  ord : IsOrder image
  ord = types_are_ordered image h

  -- ---- states

  regs_of : (s t : RegState) → IsBelow image s t → AreBelow image s.regs t.regs
  regs_of s t b = record { each = b.each; count = b.count }

  going_below : (s t : RegState) (ss ts : Types) → IsBelow image s t → AreBelow image ss ts → IsBelow image (going s ss) (going t ts)
  going_below s t ss ts b r = record { each = r.each; count = r.count; result = tt; caught = tt; this_pending = b.this_pending }

  with_result_below : (s t : RegState) (p : PendingType) → IsBelow image s t → IsBelow image (with_pending s p) (with_pending t p)
  with_result_below s t p b = record { each = b.each; count = b.count; result = pending_same image ord p; caught = tt; this_pending = b.this_pending }

  -- where the receiver's type is lost, so are all
  lost_receiver : (m : Method) (s t : RegState) (u : RegType) → IsBelow image s t → IsBelow image (after_constructor image m s u) (going t (map lost t.regs))
  lost_receiver m s t (ty.Uninit a) b = going_below s t (map (replaced a (class_or_conflict image (made_at image m a))) s.regs) (map lost t.regs) b (map_below image (replaced a (class_or_conflict image (made_at image m a))) lost (λ x y e. replaced_lost image a (class_or_conflict image (made_at image m a)) y x e) s.regs t.regs (regs_of s t b))
  lost_receiver m s t ty.UninitThis b = (let r = map_below image (replaced_this (ty.Class (own_type image m))) lost (λ x y e. this_lost image (ty.Class (own_type image m)) y x e) s.regs t.regs (regs_of s t b) in record { each = r.each; count = r.count; result = tt; caught = tt; this_pending = λ e. no e })
  lost_receiver m s t u b = going_below s t (map lost s.regs) (map lost t.regs) b (map_below image lost lost (λ x y e. lost_below image y x e) s.regs t.regs (regs_of s t b))

  same_receiver : (m : Method) (s t : RegState) (a : ℕ) → IsBelow image s t → IsBelow image (after_constructor image m s (ty.Uninit a)) (after_constructor image m t (ty.Uninit a))
  same_receiver m s t a b = (let x : RegType = class_or_conflict image (made_at image m a) in going_below s t (map (replaced a x) s.regs) (map (replaced a x) t.regs) b (map_below image (replaced a x) (replaced a x) (λ y z e. replaced_below image h a x z y e) s.regs t.regs (regs_of s t b)))

  own_receiver : (m : Method) (s t : RegState) → IsBelow image s t → IsBelow image (after_constructor image m s ty.UninitThis) (after_constructor image m t ty.UninitThis)
  own_receiver m s t b = (let x : RegType = ty.Class (own_type image m) in
      let r = map_below image (replaced_this x) (replaced_this x) (λ y z e. this_below image h x z y e) s.regs t.regs (regs_of s t b) in
      record { each = r.each; count = r.count; result = tt; caught = tt; this_pending = λ e. e })

  constructor_below : (m : Method) (s t : RegState) (w u : RegType) → under image u w ≡ true → IsBelow image s t → IsBelow image (after_constructor image m s u) (after_constructor image m t w)
  constructor_below m s t (ty.Uninit a) (ty.Uninit c) e b = subst (λ (z : ℕ). IsBelow image (after_constructor image m s (ty.Uninit c)) (after_constructor image m t (ty.Uninit z))) (eqb-true c a e) (same_receiver m s t c b)
  constructor_below m s t (ty.Uninit a) u e b = no e
  constructor_below m s t ty.UninitThis ty.UninitThis e b = own_receiver m s t b
  constructor_below m s t ty.UninitThis u e b = no e
  constructor_below m s t w u e b = lost_receiver m s t u b

  invoke_below : (m : Method) (s t : RegState) (ks : List ℕ) (g : Method) → IsBelow image s t → IsBelow image (after_invoke image m s ks g) (after_invoke image m t ks g)
  invoke_below m s t ks g b = by_sort (is_constructor g)
    where
      by_sort : (c : Bool) → IsBelow image (elim c [ true ↦ with_pending (after_constructor image m s (type_at s.regs (first_of ks))) (pending_of g.def.proto.ret) | false ↦ with_pending s (pending_of g.def.proto.ret) ]) (elim c [ true ↦ with_pending (after_constructor image m t (type_at t.regs (first_of ks))) (pending_of g.def.proto.ret) | false ↦ with_pending t (pending_of g.def.proto.ret) ])
      by_sort true = with_result_below (after_constructor image m s (type_at s.regs (first_of ks))) (after_constructor image m t (type_at t.regs (first_of ks))) (pending_of g.def.proto.ret) (constructor_below m s t (type_at t.regs (first_of ks)) (type_at s.regs (first_of ks)) (b.each (first_of ks)) b)
      by_sort false = with_result_below s t (pending_of g.def.proto.ret) b

  get_below : (ss ts : Types) (a : ℕ) (x : Suffix) (u w : RegType) → AreBelow image ss ts → under image u w ≡ true → AreBelow image (after_get ss a x u) (after_get ts a x w)
  get_below ss ts a Suffix.Long u w b e = write_long_below image ss ts a b
  get_below ss ts a Suffix.Object u w b e = write_below image ss ts a (object_element u) (object_element w) b (elements_below image h w u e)
  get_below ss ts a x u w b e = write_below image ss ts a ty.Int ty.Int b refl

  -- ---- each instruction

  module _ (s t : RegState) (b : IsBelow image s t) where
    writes : (a : ℕ) (x y : RegType) → under image x y ≡ true → IsBelow image (going s (write_type s.regs a x)) (going t (write_type t.regs a y))
    writes a x y e = going_below s t (write_type s.regs a x) (write_type t.regs a y) b (write_below image s.regs t.regs a x y (regs_of s t b) e)

    writes_same : (a : ℕ) (x : RegType) → IsBelow image (going s (write_type s.regs a x)) (going t (write_type t.regs a x))
    writes_same a x = writes a x x (under_same image ord x)

    writes_long : (a : ℕ) → IsBelow image (going s (write_long s.regs a)) (going t (write_long t.regs a))
    writes_long a = going_below s t (write_long s.regs a) (write_long t.regs a) b (write_long_below image s.regs t.regs a (regs_of s t b))

    writes_for : (a : ℕ) (f : Ty) → IsBelow image (going s (write_for s.regs a f)) (going t (write_for t.regs a f))
    writes_for a f = going_below s t (write_for s.regs a f) (write_for t.regs a f) b (write_for_below image ord s.regs t.regs a f (regs_of s t b))

    stays : IsBelow image (going s s.regs) (going t t.regs)
    stays = going_below s t s.regs t.regs b (regs_of s t b)

    makes : (a at : ℕ) → IsBelow image (going s (write_type (map (replaced at ty.Conflict) s.regs) a (ty.Uninit at))) (going t (write_type (map (replaced at ty.Conflict) t.regs) a (ty.Uninit at)))
    makes a at =
        let r = map_below image (replaced at ty.Conflict) (replaced at ty.Conflict) (λ y z e. replaced_below image h at ty.Conflict z y e) s.regs t.regs (regs_of s t b) in
        going_below s t (write_type (map (replaced at ty.Conflict) s.regs) a (ty.Uninit at)) (write_type (map (replaced at ty.Conflict) t.regs) a (ty.Uninit at)) b
        (write_below image (map (replaced at ty.Conflict) s.regs) (map (replaced at ty.Conflict) t.regs) a (ty.Uninit at) (ty.Uninit at) r (under_same image ord (ty.Uninit at)))

    out_below : (m : Method) (at : ℕ) (op : Op) → IsBelow image (out image m at op s) (out image m at op t)
    out_below m at (MoveInt a c) = writes a (copied_int (type_at s.regs c)) (copied_int (type_at t.regs c)) (int_below image (type_at t.regs c) (type_at s.regs c) (b.each c))
    out_below m at (MoveLong a c) = writes_long a
    out_below m at (MoveObject a c) = writes a (copied_object (type_at s.regs c)) (copied_object (type_at t.regs c)) (object_below image (type_at t.regs c) (type_at s.regs c) (b.each c))
    out_below m at (ResultInt a) = writes a (result_int s.result) (result_int t.result) (result_int_below image h t.result s.result b.result)
    out_below m at (ResultLong a) = going_below s t (after_result_long s.regs a s.result) (after_result_long t.regs a t.result) b (result_long_below image h s.regs t.regs a t.result s.result (regs_of s t b) b.result)
    out_below m at (ResultObject a) = writes a (result_ref s.result) (result_ref t.result) (result_ref_below image h t.result s.result b.result)
    out_below m at (TakeCaught a) = writes a (caught_type s.caught) (caught_type t.caught) (caught_below image h t.caught s.caught b.caught)
    out_below m at (Const a n) = writes_same a (const_type n)
    out_below m at (ConstLong a n) = writes_long a
    out_below m at (IntUnary o a c) = writes_same a ty.Int
    out_below m at (LongUnary o a c) = writes_long a
    out_below m at (IntToLong a c) = writes_long a
    out_below m at (LongToInt a c) = writes_same a ty.Int
    out_below m at (IntOp o a c d) = writes_same a ty.Int
    out_below m at (LongOp o a c d) = writes_long a
    out_below m at (LongShift o a c d) = writes_long a
    out_below m at (CompareLong a c d) = writes_same a ty.Int
    out_below m at (IntDivide o a c d) = writes_same a ty.Int
    out_below m at (LongDivide o a c d) = writes_long a
    out_below m at (ConstString a cs) = writes_same a (ty.Class (of_class string_name))
    out_below m at (ConstClass a f) = writes_same a (ty.Class (of_class class_name))
    out_below m at (Cast a f) = writes_same a (ty.Class f)
    out_below m at (InstanceOf a c f) = writes_same a ty.Int
    out_below m at (ArrayLength a c) = writes_same a ty.Int
    out_below m at (New a c) = makes a at
    out_below m at (NewArray a c f) = writes_same a (ty.Class f)
    out_below m at (Filled rs f) = with_result_below s t (pend.One (ty.Class f)) b
    out_below m at (ArrayGet x a c d) = going_below s t (after_get s.regs a x (type_at s.regs c)) (after_get t.regs a x (type_at t.regs c)) b (get_below s.regs t.regs a x (type_at s.regs c) (type_at t.regs c) (regs_of s t b) (b.each c))
    out_below m at (FieldGet x a c f) = writes_for a f.def.ty
    out_below m at (StaticGet x a f) = writes_for a f.def.ty
    out_below m at (Invoke c ks g) = invoke_below m s t ks g b
    out_below m at op = stays

pub transfer_is_monotone : TransferIsMonotone
transfer_is_monotone image h m at op s t b = out_below image h s t b m at op
