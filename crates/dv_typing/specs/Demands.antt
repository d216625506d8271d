-- What each instruction demands of the state before it (AOSP, "Dalvik bytecode constraints"; V1 to V14 are our own names).
use Rattle.std.specs.Prelude.{ℕ, suc, Bool, true, false, ◌&&◌, ◌||◌, not, List, [], ◌∷◌, Option, Some, None, is_some, nat_eq}
use Rattle.dv_defs.specs.declared.names.Base.TheVariants as base
use Rattle.dv_defs.specs.declared.names.Ty.{Ty}
use Rattle.dv_defs.specs.declared.faults.Rule.{Rule}
use Rattle.dv_defs.specs.declared.faults.Rule.TheVariants as rule
use Rattle.dv_defs.specs.Images.{Image}
use Rattle.dv_typing.specs.declared.typing.RegType.{RegType}
use Rattle.dv_typing.specs.declared.typing.RegType.TheVariants as ty
use Rattle.dv_typing.specs.declared.typing.PendingType.{PendingType}
use Rattle.dv_typing.specs.declared.typing.PendingType.TheVariants as pend
use Rattle.dv_typing.specs.declared.typing.RegState.{RegState}
use Rattle.dv_defs.specs.Parts.{Width, Test, Suffix, Call, is_equality}
use Rattle.dv_defs.specs.Names.{throwable_name}
use Rattle.dv_defs.specs.Types.{of_class, is_array, is_reference, is_long, is_base, component}
use Rattle.dv_defs.specs.Pools.{Method, Field, is_static, is_constructor, own_type, class_type, parent_at}
use Rattle.dv_defs.specs.Order.{assignable}
use Rattle.dv_defs.specs.Op.{Op, MoveInt, MoveLong, MoveObject, ResultInt, ResultLong, ResultObject, TakeCaught, IntUnary, LongUnary, IntToLong, LongToInt, IntOp, LongOp, LongShift, CompareLong, Goto, IfBoth, IfZero, Switch, IntDivide, LongDivide, Enter, Exit, Cast, InstanceOf, ArrayLength, New, NewArray, Filled, Fill, Throw, ArrayGet, ArrayPut, FieldGet, FieldPut, StaticPut, Invoke, ReturnVoid, Return, Arg, Reg, Lit}
use Rattle.dv_typing.specs.Statics.{At, fetch, is_of_suffix}
use Rattle.dv_typing.specs.RegTypes.{Types, type_at}

abbrev pub Demand : Type 0
Demand = Option Rule

-- the one, then the other
abbrev pub first : Demand → Demand → Demand
first None next = next
first (Some r) next = Some r

-- a rule, where its test fails
abbrev pub demand : Bool → Rule → Demand
demand true broken = None
demand false broken = Some broken

-- int: Zero or Int
abbrev pub is_int : RegType → Bool
is_int ty.Zero = true
is_int ty.Int = true
is_int t = false

abbrev pub is_lo : RegType → Bool
is_lo ty.LongLo = true
is_lo t = false

abbrev pub is_hi : RegType → Bool
is_hi ty.LongHi = true
is_hi t = false

-- ref: Zero or a class
abbrev pub is_ref : RegType → Bool
is_ref ty.Zero = true
is_ref (ty.Class c) = true
is_ref t = false

-- what move-object moves
abbrev pub is_movable : RegType → Bool
is_movable ty.Zero = true
is_movable (ty.Class c) = true
is_movable (ty.Uninit a) = true
is_movable ty.UninitThis = true
is_movable t = false

abbrev pub is_assignable : Image → RegType → Ty → Bool
is_assignable image (ty.Class c) d = assignable image c d
is_assignable image t d = true

-- Zero, or an array whose elements a test takes
abbrev pub is_array_of : (Ty → Bool) → RegType → Bool
is_array_of good ty.Zero = true
is_array_of good (ty.Class c) = is_array c && good (component c)
is_array_of good t = false

-- V2: int
abbrev pub int : Types → ℕ → Demand
int ts k = demand (is_int (type_at ts k)) (rule.V 2)

-- V3: long, the low half with the high half after it
abbrev pub long : Types → ℕ → Demand
long ts k = demand (is_lo (type_at ts k) && is_hi (type_at ts (suc k))) (rule.V 3)

-- V4: ref
abbrev pub ref : Types → ℕ → Demand
ref ts k = demand (is_ref (type_at ts k)) (rule.V 4)

-- V4, then V5: a reference that is assignable to the type
abbrev pub ref_to : Image → Types → ℕ → Ty → Demand
ref_to image ts k t = first (ref ts k) (demand (is_assignable image (type_at ts k) t) (rule.V 5))

-- V10: an array of such elements
abbrev pub array : Types → ℕ → (Ty → Bool) → Demand
array ts k good = demand (is_array_of good (type_at ts k)) (rule.V 10)

abbrev pub single_for : Image → Types → ℕ → Ty → Demand
single_for image ts k t = elim (is_reference t) [ true ↦ ref_to image ts k t | false ↦ int ts k ]

-- a value by a declared type
abbrev pub value_for : Image → Types → ℕ → Ty → Demand
value_for image ts k t = elim (is_long t) [ true ↦ long ts k | false ↦ single_for image ts k t ]

-- arguments by their types; a long has two neighbouring registers; S15 leaves none over and none out
abbrev pub args_for : Image → Types → List Ty → List ℕ → Demand
args_for image ts [] ks = None
args_for image ts (p ∷ ps) [] = Some (rule.S 15)
args_for image ts (p ∷ ps) (k ∷ ks) =
    elim (is_long p) [
      | true ↦ elim ks [
        | [] ↦ Some (rule.S 15)
        | j ∷ js ↦ first (long ts k) (first (demand (nat_eq j (suc k)) (rule.V 3)) (args_for image ts ps js))
      ]
      | false ↦ first (single_for image ts k p) (args_for image ts ps ks)
    ]

-- which class the new-instance at a place makes
abbrev pub made_by : Op → Option ℕ
made_by (New a c) = Some c
made_by op = None

abbrev pub made_at : Image → Method → ℕ → Option ℕ
made_at image m at = elim (fetch image m.id at) [ None ↦ None | Some x ↦ made_by x.op ]

abbrev pub is_exactly : Option ℕ → ℕ → Bool
is_exactly None c = false
is_exactly (Some d) c = nat_eq d c

abbrev pub is_own_or_super : Image → Method → ℕ → Bool
is_own_or_super image own c = nat_eq own.info.class.0 c || is_exactly (parent_at image own.info.class.0) c

-- V11: the receiver of a constructor
abbrev pub receiver_for : Image → Method → Method → RegType → Demand
receiver_for image own m (ty.Uninit a) = demand (is_exactly (made_at image own a) m.info.class.0) (rule.V 11)
receiver_for image own m ty.UninitThis = demand (is_own_or_super image own m.info.class.0) (rule.V 11)
receiver_for image own m t = Some (rule.V 11)

-- beside the method's class an invoke-super asks for the caller's own
abbrev pub super_for : Image → Method → Types → ℕ → Call → Demand
super_for image own ts k Call.Super = ref_to image ts k (own_type image own)
super_for image own ts k c = None

abbrev pub instance_call : Image → Method → Types → Call → List ℕ → Method → Demand
instance_call image own ts c [] m = Some (rule.S 15)
instance_call image own ts c (k ∷ ks) m =
    first
    (elim (is_constructor m) [
      | true ↦ receiver_for image own m (type_at ts k)
      | false ↦ first (ref_to image ts k (own_type image m)) (super_for image own ts k c)
    ])
    (args_for image ts m.def.proto.params ks)

abbrev pub invoke_for : Image → Method → Types → Call → List ℕ → Method → Demand
invoke_for image own ts c ks m =
    elim (is_static m) [ true ↦ args_for image ts m.def.proto.params ks | false ↦ instance_call image own ts c ks m ]

-- the return that a method's result type wants, where it has one
abbrev pub result_width : Option Ty → Width
result_width None = Width.Narrow
result_width (Some t) =
    elim (is_long t) [
      | true ↦ Width.Wide
      | false ↦ elim (is_reference t) [ true ↦ Width.Reference | false ↦ Width.Narrow ]
    ]

abbrev pub same_width : Width → Width → Bool
same_width Width.Narrow Width.Narrow = true
same_width Width.Wide Width.Wide = true
same_width Width.Reference Width.Reference = true
same_width a b = false

abbrev pub is_void : Option Ty → Bool
is_void None = true
is_void (Some t) = false

abbrev pub value_returned : Image → Types → ℕ → Option Ty → Demand
value_returned image ts k None = None
value_returned image ts k (Some t) = value_for image ts k t

abbrev pub arg_int : Types → Arg → Demand
arg_int ts (Reg r) = int ts r
arg_int ts (Lit n) = None

-- V9: if-eq and if-ne compare two ints or two references
abbrev pub both_for : Test → Types → ℕ → ℕ → Demand
both_for t ts a b =
    elim (is_equality t) [
      | true ↦ demand
          ((is_int (type_at ts a) && is_int (type_at ts b)) || (is_ref (type_at ts a) && is_ref (type_at ts b)))
          (rule.V 9)
      | false ↦ first (int ts a) (int ts b)
    ]

abbrev pub zero_for : Test → Types → ℕ → Demand
zero_for t ts a = elim (is_equality t) [ true ↦ demand (is_int (type_at ts a) || is_ref (type_at ts a)) (rule.V 9) | false ↦ int ts a ]

abbrev pub put_for : Types → ℕ → Suffix → Demand
put_for ts k Suffix.Long = long ts k
put_for ts k Suffix.Object = ref ts k
put_for ts k s = int ts k

-- the elements that a payload of so many bytes an element fills
abbrev pub is_fill_type : ℕ → Ty → Bool
is_fill_type width t =
    (nat_eq width 1 && (is_base base.Z t || is_base base.B t)) ||
    (nat_eq width 2 && (is_base base.C t || is_base base.S t)) || (nat_eq width 4 && is_base base.I t) ||
    (nat_eq width 8 && is_base base.J t)

abbrev pub any_type : Ty → Bool
any_type t = true

abbrev pub each_for : Image → Types → List ℕ → Ty → Demand
each_for image ts [] t = None
each_for image ts (k ∷ ks) t = first (single_for image ts k t) (each_for image ts ks t)

abbrev pub is_own_field : Method → Field → Bool
is_own_field m x = nat_eq x.info.class.0 m.info.class.0

-- V14: before the superclass's constructor was called, a field of the method's own class may be put
abbrev pub put_receiver : Image → Method → Types → ℕ → Field → RegType → Demand
put_receiver image m ts k x ty.UninitThis = demand (is_own_field m x) (rule.V 14)
put_receiver image m ts k x t = ref_to image ts k (class_type image x.info.class.0)

abbrev pub is_pending_int : PendingType → Bool
is_pending_int (pend.One ty.Int) = true
is_pending_int p = false

abbrev pub is_pending_ref : PendingType → Bool
is_pending_ref (pend.One (ty.Class c)) = true
is_pending_ref p = false

abbrev pub is_pending_long : PendingType → Bool
is_pending_long pend.Long = true
is_pending_long p = false

-- a constructor returns after the superclass's constructor was called
abbrev pub this_initialised : Method → RegState → Demand
this_initialised m s = demand (not (is_constructor m && s.this_pending)) (rule.V 12)

-- the first demand on a state that fails, none where all hold
abbrev pub demands : Image → Method → Op → RegState → Demand
demands image m (MoveInt a b) s = int s.regs b
demands image m (MoveLong a b) s = long s.regs b
demands image m (MoveObject a b) s = demand (is_movable (type_at s.regs b)) (rule.V 6)
demands image m (ResultInt a) s = demand (is_pending_int s.result) (rule.V 7)
demands image m (ResultLong a) s = demand (is_pending_long s.result) (rule.V 7)
demands image m (ResultObject a) s = demand (is_pending_ref s.result) (rule.V 7)
demands image m (TakeCaught a) s = demand (is_some s.caught) (rule.V 8)
demands image m (IntUnary o a b) s = int s.regs b
demands image m (LongUnary o a b) s = long s.regs b
demands image m (IntToLong a b) s = int s.regs b
demands image m (LongToInt a b) s = long s.regs b
demands image m (IntOp o a b c) s = first (int s.regs b) (arg_int s.regs c)
demands image m (LongOp o a b c) s = first (long s.regs b) (long s.regs c)
demands image m (LongShift o a b c) s = first (long s.regs b) (int s.regs c)
demands image m (CompareLong a b c) s = first (long s.regs b) (long s.regs c)
demands image m (IfBoth t a b to) s = both_for t s.regs a b
demands image m (IfZero t a to) s = zero_for t s.regs a
demands image m (Switch a cases) s = int s.regs a
demands image m (IntDivide o a b c) s = first (int s.regs b) (arg_int s.regs c)
demands image m (LongDivide o a b c) s = first (long s.regs b) (long s.regs c)
demands image m (Enter a) s = ref s.regs a
demands image m (Exit a) s = ref s.regs a
demands image m (Cast a t) s = ref s.regs a
demands image m (InstanceOf a b t) s = ref s.regs b
demands image m (ArrayLength a b) s = array s.regs b any_type
demands image m (NewArray a b t) s = int s.regs b
demands image m (Filled rs t) s = each_for image s.regs rs (component t)
demands image m (Fill a n vs) s = array s.regs a (is_fill_type n)
demands image m (Throw a) s = ref_to image s.regs a (of_class throwable_name)
demands image m (ArrayGet x a b c) s = first (array s.regs b (is_of_suffix x)) (int s.regs c)
demands image m (ArrayPut x a b c) s = first (array s.regs b (is_of_suffix x)) (first (int s.regs c) (put_for s.regs a x))
demands image m (FieldGet x a b f) s = ref_to image s.regs b (class_type image f.info.class.0)
demands image m (FieldPut x a b f) s = first (put_receiver image m s.regs b f (type_at s.regs b)) (value_for image s.regs a f.def.ty)
demands image m (StaticPut x a f) s = value_for image s.regs a f.def.ty
demands image m (Invoke c ks g) s = invoke_for image m s.regs c ks g
demands image m ReturnVoid s = first (demand (is_void m.def.proto.ret) (rule.V 13)) (this_initialised m s)
demands image m (Return x a) s =
    first (demand (not (is_void m.def.proto.ret) && same_width x (result_width m.def.proto.ret)) (rule.V 13))
    (first (this_initialised m s) (value_returned image s.regs a m.def.proto.ret))
demands image m op s = None

-- whether control goes on to the next address
abbrev pub goes_on : Op → Bool
goes_on (Goto to) = false
goes_on (Throw a) = false
goes_on ReturnVoid = false
goes_on (Return x a) = false
goes_on op = true

-- V1, tested last: control goes on to an instruction
abbrev pub onward_ok : Image → Method → At → Demand
onward_ok image m x = elim (goes_on x.op) [ true ↦ demand (is_some (fetch image m.id x.next)) (rule.V 1) | false ↦ None ]

-- the rule of the first demand that fails, none where the state is good for the instruction
abbrev pub ok : Image → Method → At → RegState → Demand
ok image m x s = first (demands image m x.op s) (onward_ok image m x)
