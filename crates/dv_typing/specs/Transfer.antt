-- The state on entry to a method, and what each instruction makes of a state.
use Rattle.std.specs.Prelude.{ℕ, zero, suc, ◌-◌, Bool, true, false, ◌&&◌, not, List, [], ◌∷◌, ◌++◌, length, map, replicate, ℤ, pos, negsuc, Option, Some, None, slice_set, nat_eq}
use Rattle.dv_defs.specs.declared.names.Ty.{Ty}
use Rattle.dv_defs.specs.Images.{Image}
use Rattle.dv_typing.specs.declared.typing.RegType.{RegType}
use Rattle.dv_typing.specs.declared.typing.RegType.TheVariants as ty
use Rattle.dv_typing.specs.declared.typing.PendingType.{PendingType}
use Rattle.dv_typing.specs.declared.typing.PendingType.TheVariants as pend
use Rattle.dv_typing.specs.declared.typing.RegState.{RegState}
use Rattle.dv_defs.specs.Parts.{Suffix}
use Rattle.dv_defs.specs.Names.{string_name, class_name}
use Rattle.dv_defs.specs.Types.{of_class, is_array, is_reference, is_long, component}
use Rattle.dv_defs.specs.Pools.{Method, is_static, is_constructor, is_of_object, own_type, class_type}
use Rattle.dv_defs.specs.Op.{Op, MoveInt, MoveLong, MoveObject, ResultInt, ResultLong, ResultObject, TakeCaught, Const, ConstLong, IntUnary, LongUnary, IntToLong, LongToInt, IntOp, LongOp, LongShift, CompareLong, IntDivide, LongDivide, ConstString, ConstClass, Cast, InstanceOf, ArrayLength, New, NewArray, Filled, ArrayGet, FieldGet, StaticGet, Invoke}
use Rattle.dv_typing.specs.RegTypes.{Types, type_at, single_type, all_types}
use Rattle.dv_typing.specs.Demands.{made_at}

abbrev pub begins_uninitialised : Image → Method → Bool
begins_uninitialised image m = is_constructor m && not (is_of_object image m)

-- the receiver on entry: in a constructor other than Object's it is not yet initialised
abbrev pub receiver_type : Image → Method → List RegType
receiver_type image m =
    elim (is_static m) [
      | true ↦ []
      | false ↦ elim (begins_uninitialised image m) [
        | true ↦ ty.UninitThis ∷ []
        | false ↦ ty.Class (own_type image m) ∷ []
      ]
    ]

abbrev pub arg_types : Image → Method → List RegType
arg_types image m = receiver_type image m ++ all_types m.def.proto.params

-- the state on entry: the arguments stand in the last registers
abbrev pub entry_state : Image → Method → ℕ → RegState
entry_state image m registers =
    record {
      regs = replicate (registers - length (arg_types image m)) ty.Conflict ++ arg_types image m;
      result = pend.None;
      caught = None;
      this_pending = begins_uninitialised image m;
    }

-- half of a long whose other half is overwritten
abbrev pub broken_lo : RegType → RegType
broken_lo ty.LongLo = ty.Conflict
broken_lo t = t

abbrev pub broken_hi : RegType → RegType
broken_hi ty.LongHi = ty.Conflict
broken_hi t = t

abbrev pub break_before : Types → ℕ → Types
break_before ts zero = ts
break_before ts (suc k) = slice_set ts k (broken_lo (type_at ts k))

abbrev pub break_after : Types → ℕ → Types
break_after ts k = slice_set ts (suc k) (broken_hi (type_at ts (suc k)))

-- register k takes a type; a long that lay half there is broken
unfoldable pub write_type : Types → ℕ → RegType → Types
write_type ts k t = slice_set (break_after (break_before ts k) k) k t

-- registers k and k + 1 take types at once, as a long's two halves do
unfoldable pub write_two : Types → ℕ → RegType → RegType → Types
write_two ts k lo hi = slice_set (slice_set (break_after (break_before ts k) (suc k)) k lo) (suc k) hi

abbrev pub write_long : Types → ℕ → Types
write_long ts k = write_two ts k ty.LongLo ty.LongHi

abbrev pub write_for : Types → ℕ → Ty → Types
write_for ts k t = elim (is_long t) [ true ↦ write_long ts k | false ↦ write_type ts k (single_type t) ]

-- every instruction clears the pending result and the caught type
abbrev pub going : RegState → Types → RegState
going s ts = record { regs = ts; result = pend.None; caught = None; this_pending = s.this_pending }

abbrev pub with_pending : RegState → PendingType → RegState
with_pending s p = record { regs = s.regs; result = p; caught = None; this_pending = s.this_pending }

abbrev pub copied_int : RegType → RegType
copied_int ty.Zero = ty.Zero
copied_int ty.Int = ty.Int
copied_int t = ty.Conflict

abbrev pub copied_object : RegType → RegType
copied_object ty.Zero = ty.Zero
copied_object (ty.Class c) = ty.Class c
copied_object (ty.Uninit a) = ty.Uninit a
copied_object ty.UninitThis = ty.UninitThis
copied_object t = ty.Conflict

-- a constant 0 is Zero
abbrev pub const_type : ℤ → RegType
const_type (pos n) = elim n [ zero ↦ ty.Zero | suc k ↦ ty.Int ]
const_type (negsuc n) = ty.Int

abbrev pub result_int : PendingType → RegType
result_int (pend.One ty.Int) = ty.Int
result_int p = ty.Conflict

abbrev pub result_ref : PendingType → RegType
result_ref (pend.One (ty.Class c)) = ty.Class c
result_ref p = ty.Conflict

abbrev pub after_result_long : Types → ℕ → PendingType → Types
after_result_long ts a pend.Long = write_long ts a
after_result_long ts a p = write_two ts a ty.Conflict ty.Conflict

abbrev pub caught_type : Option Ty → RegType
caught_type None = ty.Conflict
caught_type (Some t) = ty.Class t

-- what a constructor makes of the receiver's registers
abbrev pub replaced : ℕ → RegType → RegType → RegType
replaced a t (ty.Uninit b) = elim (nat_eq a b) [ true ↦ t | false ↦ ty.Uninit b ]
replaced a t u = u

abbrev pub replaced_this : RegType → RegType → RegType
replaced_this t ty.UninitThis = t
replaced_this t u = u

abbrev pub lost : RegType → RegType
lost (ty.Uninit a) = ty.Conflict
lost ty.UninitThis = ty.Conflict
lost t = t

abbrev pub class_or_conflict : Image → Option ℕ → RegType
class_or_conflict image None = ty.Conflict
class_or_conflict image (Some c) = ty.Class (class_type image c)

-- the pending result of a call
abbrev pub pending_of : Option Ty → PendingType
pending_of None = pend.None
pending_of (Some t) = elim (is_long t) [ true ↦ pend.Long | false ↦ pend.One (single_type t) ]

abbrev pub after_constructor : Image → Method → RegState → RegType → RegState
after_constructor image m s (ty.Uninit a) = going s (map (replaced a (class_or_conflict image (made_at image m a))) s.regs)
after_constructor image m s ty.UninitThis =
    record {
      regs = map (replaced_this (ty.Class (own_type image m))) s.regs;
      result = pend.None;
      caught = None;
      this_pending = false;
    }
after_constructor image m s t = going s (map lost s.regs)

abbrev pub first_of : List ℕ → ℕ
first_of [] = 0
first_of (k ∷ ks) = k

abbrev pub after_invoke : Image → Method → RegState → List ℕ → Method → RegState
after_invoke image m s ks g =
    elim (is_constructor g) [
      | true ↦ with_pending (after_constructor image m s (type_at s.regs (first_of ks))) (pending_of g.def.proto.ret)
      | false ↦ with_pending s (pending_of g.def.proto.ret)
    ]

-- what aget-object gives
abbrev pub object_element : RegType → RegType
object_element ty.Zero = ty.Zero
object_element (ty.Class c) = elim (is_array c && is_reference (component c)) [ true ↦ ty.Class (component c) | false ↦ ty.Conflict ]
object_element t = ty.Conflict

abbrev pub after_get : Types → ℕ → Suffix → RegType → Types
after_get ts a Suffix.Long t = write_long ts a
after_get ts a Suffix.Object t = write_type ts a (object_element t)
after_get ts a s t = write_type ts a ty.Int

-- the state after the instruction at an address, for every state before it
abbrev pub out : Image → Method → ℕ → Op → RegState → RegState
out image m at (MoveInt a b) s = going s (write_type s.regs a (copied_int (type_at s.regs b)))
out image m at (MoveLong a b) s = going s (write_long s.regs a)
out image m at (MoveObject a b) s = going s (write_type s.regs a (copied_object (type_at s.regs b)))
out image m at (ResultInt a) s = going s (write_type s.regs a (result_int s.result))
out image m at (ResultLong a) s = going s (after_result_long s.regs a s.result)
out image m at (ResultObject a) s = going s (write_type s.regs a (result_ref s.result))
out image m at (TakeCaught a) s = going s (write_type s.regs a (caught_type s.caught))
out image m at (Const a n) s = going s (write_type s.regs a (const_type n))
out image m at (ConstLong a n) s = going s (write_long s.regs a)
out image m at (IntUnary o a b) s = going s (write_type s.regs a ty.Int)
out image m at (LongUnary o a b) s = going s (write_long s.regs a)
out image m at (IntToLong a b) s = going s (write_long s.regs a)
out image m at (LongToInt a b) s = going s (write_type s.regs a ty.Int)
out image m at (IntOp o a b c) s = going s (write_type s.regs a ty.Int)
out image m at (LongOp o a b c) s = going s (write_long s.regs a)
out image m at (LongShift o a b c) s = going s (write_long s.regs a)
out image m at (CompareLong a b c) s = going s (write_type s.regs a ty.Int)
out image m at (IntDivide o a b c) s = going s (write_type s.regs a ty.Int)
out image m at (LongDivide o a b c) s = going s (write_long s.regs a)
out image m at (ConstString a cs) s = going s (write_type s.regs a (ty.Class (of_class string_name)))
out image m at (ConstClass a t) s = going s (write_type s.regs a (ty.Class (of_class class_name)))
out image m at (Cast a t) s = going s (write_type s.regs a (ty.Class t))
out image m at (InstanceOf a b t) s = going s (write_type s.regs a ty.Int)
out image m at (ArrayLength a b) s = going s (write_type s.regs a ty.Int)
out image m at (New a c) s = going s (write_type (map (replaced at ty.Conflict) s.regs) a (ty.Uninit at))
out image m at (NewArray a b t) s = going s (write_type s.regs a (ty.Class t))
out image m at (Filled rs t) s = with_pending s (pend.One (ty.Class t))
out image m at (ArrayGet x a b c) s = going s (after_get s.regs a x (type_at s.regs b))
out image m at (FieldGet x a b f) s = going s (write_for s.regs a f.def.ty)
out image m at (StaticGet x a f) s = going s (write_for s.regs a f.def.ty)
out image m at (Invoke c ks g) s = after_invoke image m s ks g
out image m at op s = going s s.regs
