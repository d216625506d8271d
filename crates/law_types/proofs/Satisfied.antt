-- An instruction that is satisfied with a state is satisfied with each below it.
use Rattle.std.proofs.Common.{◌≡◌, Bool, true, false, ℕ, ◌&&◌, not, None, refl}
use Rattle.std.specs.Prelude.{is_some}
use Rattle.dv_defs.specs.Images.{Image}
use Rattle.dv_typing.specs.declared.typing.RegState.{RegState}
use Rattle.dv_defs.specs.Names.{throwable_name}
use Rattle.dv_defs.specs.Types.{of_class, component}
use Rattle.dv_defs.specs.Pools.{Method, class_type, is_constructor}
use Rattle.dv_typing.specs.Statics.{is_of_suffix}
use Rattle.dv_defs.specs.Op.{Op, MoveInt, MoveLong, MoveObject, ResultInt, ResultLong, ResultObject, TakeCaught, IntUnary, LongUnary, IntToLong, LongToInt, IntOp, LongOp, LongShift, CompareLong, IfBoth, IfZero, Switch, IntDivide, LongDivide, Enter, Exit, Cast, InstanceOf, ArrayLength, NewArray, Filled, Fill, Throw, ArrayGet, ArrayPut, FieldGet, FieldPut, StaticPut, Invoke, ReturnVoid, Return}
use Rattle.dv_typing.specs.RegTypes.{type_at, IsBelow}
use Rattle.dv_typing.specs.Demands.{this_initialised, first, demand, is_movable, int, long, array, value_for, result_width, same_width, is_void, value_returned, put_for, is_fill_type, any_type, put_receiver, is_pending_int, is_pending_ref, is_pending_long, demands, onward_ok}
use Rattle.law_types.specs.Hierarchy.{IsHierarchy}
use Rattle.law_types.specs.Laws.{DemandIsAntitone}
use Rattle.law_types.proofs.Regs.{AreBelow}
use Rattle.law_types.proofs.Demands.{Along, first_along, demand_along, same_along, movable_along, pending_along, caught_along, not_along, any_down, fill_down, suffix_down, int_met, long_met, ref_met, ref_to_met, array_met, value_met}
use Rattle.law_types.proofs.Antitone.{invoke_met, two_longs, int_and, both_met, zero_met, put_met, each_met, returned_met, put_receiver_met}
use Rattle.dv_defs.specs.declared.faults.Rule.TheVariants as rule

-- the same where both stand under one more condition
unless_along : (c p q : Bool) → (p ≡ true → q ≡ true) → not (c && q) ≡ true → not (c && p) ≡ true
unless_along true p q h = not_along p q h
unless_along false p q h = λ e. e

module _ (image : Image) (h : IsHierarchy image) (s t : RegState) (b : IsBelow image s t) where
  regs : AreBelow image s.regs t.regs
  regs = record { each = b.each; count = b.count }

  ints : (k : ℕ) → Along (int t.regs k) (int s.regs k)
  ints = int_met image h s.regs t.regs regs

  longs : (k : ℕ) → Along (long t.regs k) (long s.regs k)
  longs = long_met image h s.regs t.regs regs

  initialised : (m : Method) → Along (this_initialised m t) (this_initialised m s)
  initialised m =
      demand_along (not (is_constructor m && t.this_pending)) (not (is_constructor m && s.this_pending)) (rule.V 12)
      (unless_along (is_constructor m) s.this_pending t.this_pending b.this_pending)

  met_by : (m : Method) (op : Op) → Along (demands image m op t) (demands image m op s)
  met_by m (MoveInt a c) = ints c
  met_by m (MoveLong a c) = longs c
  met_by m (MoveObject a c) = demand_along (is_movable (type_at t.regs c)) (is_movable (type_at s.regs c)) (rule.V 6) (movable_along image (type_at t.regs c) (type_at s.regs c) (b.each c))
  met_by m (ResultInt a) = demand_along (is_pending_int t.result) (is_pending_int s.result) (rule.V 7) (pending_along is_pending_int refl t.result s.result b.result)
  met_by m (ResultLong a) = demand_along (is_pending_long t.result) (is_pending_long s.result) (rule.V 7) (pending_along is_pending_long refl t.result s.result b.result)
  met_by m (ResultObject a) = demand_along (is_pending_ref t.result) (is_pending_ref s.result) (rule.V 7) (pending_along is_pending_ref refl t.result s.result b.result)
  met_by m (TakeCaught a) = demand_along (is_some t.caught) (is_some s.caught) (rule.V 8) (caught_along image t.caught s.caught b.caught)
  met_by m (IntUnary o a c) = ints c
  met_by m (LongUnary o a c) = longs c
  met_by m (IntToLong a c) = ints c
  met_by m (LongToInt a c) = longs c
  met_by m (IntOp o a c d) = int_and image h s.regs t.regs regs c d
  met_by m (LongOp o a c d) = two_longs image h s.regs t.regs regs c d
  met_by m (LongShift o a c d) = first_along (long t.regs c) (int t.regs d) (long s.regs c) (int s.regs d) (longs c) (ints d)
  met_by m (CompareLong a c d) = two_longs image h s.regs t.regs regs c d
  met_by m (IfBoth x a c to) = both_met image h s.regs t.regs regs x a c
  met_by m (IfZero x a to) = zero_met image h s.regs t.regs regs x a
  met_by m (Switch a cases) = ints a
  met_by m (IntDivide o a c d) = int_and image h s.regs t.regs regs c d
  met_by m (LongDivide o a c d) = two_longs image h s.regs t.regs regs c d
  met_by m (Enter a) = ref_met image h s.regs t.regs regs a
  met_by m (Exit a) = ref_met image h s.regs t.regs regs a
  met_by m (Cast a f) = ref_met image h s.regs t.regs regs a
  met_by m (InstanceOf a c f) = ref_met image h s.regs t.regs regs c
  met_by m (ArrayLength a c) = array_met image h s.regs t.regs regs c any_type (any_down image h)
  met_by m (NewArray a c f) = ints c
  met_by m (Filled rs f) = each_met image h s.regs t.regs regs rs (component f)
  met_by m (Fill a n vs) = array_met image h s.regs t.regs regs a (is_fill_type n) (fill_down image h n)
  met_by m (Throw a) = ref_to_met image h s.regs t.regs regs a (of_class throwable_name)
  met_by m (ArrayGet x a c d) = first_along (array t.regs c (is_of_suffix x)) (int t.regs d) (array s.regs c (is_of_suffix x)) (int s.regs d) (array_met image h s.regs t.regs regs c (is_of_suffix x) (suffix_down image h x)) (ints d)
  met_by m (ArrayPut x a c d) = first_along (array t.regs c (is_of_suffix x)) (first (int t.regs d) (put_for t.regs a x)) (array s.regs c (is_of_suffix x)) (first (int s.regs d) (put_for s.regs a x)) (array_met image h s.regs t.regs regs c (is_of_suffix x) (suffix_down image h x))
      (first_along (int t.regs d) (put_for t.regs a x) (int s.regs d) (put_for s.regs a x) (ints d) (put_met image h s.regs t.regs regs a x))
  met_by m (FieldGet x a c f) = ref_to_met image h s.regs t.regs regs c (class_type image f.info.class.0)
  met_by m (FieldPut x a c f) = first_along (put_receiver image m t.regs c f (type_at t.regs c)) (value_for image t.regs a f.def.ty) (put_receiver image m s.regs c f (type_at s.regs c)) (value_for image s.regs a f.def.ty) (put_receiver_met image h s.regs t.regs regs m c f) (value_met image h s.regs t.regs regs a f.def.ty)
  met_by m (StaticPut x a f) = value_met image h s.regs t.regs regs a f.def.ty
  met_by m (Invoke c ks g) = invoke_met image h s.regs t.regs regs m c ks g
  met_by m ReturnVoid = first_along (demand (is_void m.def.proto.ret) (rule.V 13)) (this_initialised m t) (demand (is_void m.def.proto.ret) (rule.V 13)) (this_initialised m s) (same_along (demand (is_void m.def.proto.ret) (rule.V 13))) (initialised m)
  met_by m (Return x a) =
      let form = demand (not (is_void m.def.proto.ret) && same_width x (result_width m.def.proto.ret)) (rule.V 13) in
      first_along form (first (this_initialised m t) (value_returned image t.regs a m.def.proto.ret)) form (first (this_initialised m s) (value_returned image s.regs a m.def.proto.ret)) (same_along form)
      (first_along (this_initialised m t) (value_returned image t.regs a m.def.proto.ret) (this_initialised m s) (value_returned image s.regs a m.def.proto.ret) (initialised m) (returned_met image h s.regs t.regs regs a m.def.proto.ret))
  met_by m op = same_along None

pub demand_is_antitone : DemandIsAntitone
demand_is_antitone image h m x s t b = first_along (demands image m x.op t) (onward_ok image m x) (demands image m x.op s) (onward_ok image m x) (met_by image h s t b m x.op) (same_along (onward_ok image m x))
