-- Instructions with their operands resolved: what transfer, demands and steps speak of.
use Rattle.std.specs.Prelude.{ℕ, zero, suc, ◌/◌, Bool, true, false, ◌&&◌, not, List, [], ◌∷◌, length, take, ℤ, pos, ◌+ℤ◌, Option, Some, None, Result, Ok, Err, slice_index, slice_get}
use Rattle.dv_defs.specs.declared.names.Base.{Base}
use Rattle.dv_defs.specs.declared.names.Ty.{Ty}
use Rattle.dv_defs.specs.declared.names.FieldId.{FieldId}
use Rattle.dv_defs.specs.declared.names.MethodId.{MethodId}
use Rattle.dv_defs.specs.declared.code.Body.{Body}
use Rattle.dv_defs.specs.declared.code.Insn.{Insn}
use Rattle.dv_defs.specs.declared.code.Regs.{Regs}
use Rattle.dv_defs.specs.declared.code.Payload.{Payload}
use Rattle.dv_defs.specs.declared.code.Payload.TheVariants as payload
use Rattle.dv_defs.specs.declared.faults.Rule.{Rule}
use Rattle.dv_defs.specs.declared.faults.Rule.TheVariants as rule
use Rattle.dv_defs.specs.Images.{Image}
use Rattle.dv_defs.specs.Parts.{Width, Test, Suffix, Call, Bin, Unary, is_division, is_shift}
use Rattle.dv_defs.specs.Families.{Family, family_at}
use Rattle.dv_defs.specs.Types.{class_in, is_array}
use Rattle.dv_defs.specs.Pools.{Method, Field, method_at, field_at, class_named}
use Rattle.dv_defs.specs.Numbers.{jump, elements}
use Rattle.dv_defs.specs.Tiling.{Tile, tiling, tiles_in, payload_at}

-- the second operand of an int operation
pub data Arg : Type 0 where
  Reg : (r : ℕ) → Arg
  Lit : (n : ℤ) → Arg

-- a key of a switch with the address that it leads to
pub record Case : Type 0 where
  pub key : ℤ
  pub to : ℕ

-- registers stand in the order of the format's operands, addresses are absolute
pub data Op : Type 0 where
  Nop : Op
  MoveInt : (a b : ℕ) → Op
  MoveLong : (a b : ℕ) → Op
  MoveObject : (a b : ℕ) → Op
  ResultInt : (a : ℕ) → Op
  ResultLong : (a : ℕ) → Op
  ResultObject : (a : ℕ) → Op
  TakeCaught : (a : ℕ) → Op
  Const : (a : ℕ) (n : ℤ) → Op
  ConstLong : (a : ℕ) (n : ℤ) → Op
  IntUnary : (o : Unary) (a b : ℕ) → Op
  LongUnary : (o : Unary) (a b : ℕ) → Op
  IntToLong : (a b : ℕ) → Op
  LongToInt : (a b : ℕ) → Op
  IntOp : (o : Bin) (a b : ℕ) (c : Arg) → Op
  LongOp : (o : Bin) (a b c : ℕ) → Op
  LongShift : (o : Bin) (a b c : ℕ) → Op
  CompareLong : (a b c : ℕ) → Op
  Goto : (to : ℕ) → Op
  IfBoth : (test : Test) (a b to : ℕ) → Op
  IfZero : (test : Test) (a to : ℕ) → Op
  Switch : (a : ℕ) (cases : List Case) → Op
  IntDivide : (o : Bin) (a b : ℕ) (c : Arg) → Op
  LongDivide : (o : Bin) (a b c : ℕ) → Op
  ConstString : (a : ℕ) (chars : List ℕ) → Op
  ConstClass : (a : ℕ) (ty : Ty) → Op
  Enter : (a : ℕ) → Op
  Exit : (a : ℕ) → Op
  Cast : (a : ℕ) (ty : Ty) → Op
  InstanceOf : (a b : ℕ) (ty : Ty) → Op
  ArrayLength : (a b : ℕ) → Op
  New : (a class : ℕ) → Op
  NewArray : (a b : ℕ) (ty : Ty) → Op
  Filled : (regs : List ℕ) (ty : Ty) → Op
  Fill : (a width : ℕ) (values : List ℤ) → Op
  Throw : (a : ℕ) → Op
  ArrayGet : (s : Suffix) (a b c : ℕ) → Op
  ArrayPut : (s : Suffix) (a b c : ℕ) → Op
  FieldGet : (s : Suffix) (a b : ℕ) (field : Field) → Op
  FieldPut : (s : Suffix) (a b : ℕ) (field : Field) → Op
  StaticGet : (s : Suffix) (a : ℕ) (field : Field) → Op
  StaticPut : (s : Suffix) (a : ℕ) (field : Field) → Op
  Invoke : (call : Call) (args : List ℕ) (method : Method) → Op
  ReturnVoid : Op
  Return : (width : Width) (a : ℕ) → Op

-- a method's body with its instructions and payloads
pub record Code : Type 0 where
  pub method : Method
  pub body : Body
  pub tiles : List Tile

abbrev pub with_body : Method → Option Body → Option Code
with_body m None = None
with_body m (Some b) = Some (record { method = m; body = b; tiles = tiles_in (tiling b.units) })

abbrev pub code_of : Option Method → Option Code
code_of None = None
code_of (Some m) = with_body m m.def.body

unfoldable pub code_at : Image → ℕ → Option Code
code_at image n = code_of (method_at image n)

abbrev pub reg : Insn → ℕ → ℕ
reg i k = slice_index i.regs.first k

abbrev pub count_up : ℕ → ℕ → List ℕ
count_up from zero = []
count_up from (suc n) = from ∷ count_up (suc from) n

-- the registers that an instruction names
abbrev pub named_registers : Regs → List ℕ
named_registers r = elim r.range [ true ↦ count_up (slice_index r.first 0) r.count | false ↦ take r.count r.first ]

-- the operation, or the static rule that says why there is none
abbrev pub Resolved : Type 0
Resolved = Result Op Rule

-- an index into a pool is below the pool's length
abbrev pub on_pool : {A : Type 0} → Option A → (A → Resolved) → Resolved
on_pool None go = Err (rule.S 12)
on_pool (Some x) go = go x

abbrev pub resolved_field : Image → Option FieldId → Option Field
resolved_field image None = None
resolved_field image (Some f) = field_at image f.0

abbrev pub resolved_method : Image → Option MethodId → Option Method
resolved_method image None = None
resolved_method image (Some m) = method_at image m.0

abbrev pub move_op : Width → ℕ → ℕ → Op
move_op Width.Narrow a b = MoveInt a b
move_op Width.Wide a b = MoveLong a b
move_op Width.Reference a b = MoveObject a b

abbrev pub result_op : Width → ℕ → Op
result_op Width.Narrow a = ResultInt a
result_op Width.Wide a = ResultLong a
result_op Width.Reference a = ResultObject a

abbrev pub int_op : Bin → ℕ → ℕ → Arg → Op
int_op o a b c = elim (is_division o) [ true ↦ IntDivide o a b c | false ↦ IntOp o a b c ]

abbrev pub long_op : Bin → ℕ → ℕ → ℕ → Op
long_op o a b c =
    elim (is_division o) [
      | true ↦ LongDivide o a b c
      | false ↦ elim (is_shift o) [ true ↦ LongShift o a b c | false ↦ LongOp o a b c ]
    ]

-- a packed switch's keys follow one another; targets are relative to the switch
abbrev pub cases_packed : ℕ → ℤ → List ℤ → List Case
cases_packed at k [] = []
cases_packed at k (t ∷ ts) = record { key = k; to = jump at t } ∷ cases_packed at (k +ℤ pos 1) ts

abbrev pub cases_sparse : ℕ → List ℤ → List ℤ → List Case
cases_sparse at (k ∷ ks) (t ∷ ts) = record { key = k; to = jump at t } ∷ cases_sparse at ks ts
cases_sparse at ks ts = []

-- a payload of the instruction's kind stands at its target
abbrev pub packed_op : ℕ → ℕ → Option Payload → Resolved
packed_op at a (Some (payload.Packed k ts)) = Ok (Switch a (cases_packed at k ts))
packed_op at a p = Err (rule.S 6)

abbrev pub sparse_op : ℕ → ℕ → Option Payload → Resolved
sparse_op at a (Some (payload.Sparse ks ts)) = Ok (Switch a (cases_sparse at ks ts))
sparse_op at a p = Err (rule.S 6)

abbrev pub fill_op : ℕ → Option Payload → Resolved
fill_op a (Some (payload.Data width bytes)) = Ok (Fill a width (elements (length bytes / width) width bytes))
fill_op a p = Err (rule.S 6)

-- the class that a type without dimensions names
abbrev pub class_of_base : Image → Base → Option ℕ
class_of_base image b = elim (class_in b) [ None ↦ None | Some name ↦ class_named image name ]

-- new-instance names a class
abbrev pub new_op : Image → ℕ → Ty → Resolved
new_op image a t =
    elim (is_array t) [
      | true ↦ Err (rule.S 16)
      | false ↦ elim (class_of_base image t.base) [ None ↦ Err (rule.S 16) | Some c ↦ Ok (New a c) ]
    ]

-- by family; /2addr writes its first operand, the forms of a literal take that as their second
abbrev pub resolve : Image → Code → ℕ → Insn → Family → Resolved
resolve image code at i Family.Nop = Ok Nop
resolve image code at i (Family.Move x) = Ok (move_op x (reg i 0) (reg i 1))
resolve image code at i (Family.MoveResult x) = Ok (result_op x (reg i 0))
resolve image code at i Family.MoveException = Ok (TakeCaught (reg i 0))
resolve image code at i Family.ReturnVoid = Ok ReturnVoid
resolve image code at i (Family.Return x) = Ok (Return x (reg i 0))
resolve image code at i Family.Const = Ok (Const (reg i 0) i.lit)
resolve image code at i Family.ConstWide = Ok (ConstLong (reg i 0) i.lit)
resolve image code at i Family.ConstString = on_pool (slice_get code.body.strings i.index) (λ s. Ok (ConstString (reg i 0) s))
resolve image code at i Family.ConstClass = on_pool (slice_get code.method.info.types i.index) (λ t. Ok (ConstClass (reg i 0) t))
resolve image code at i Family.MonitorEnter = Ok (Enter (reg i 0))
resolve image code at i Family.MonitorExit = Ok (Exit (reg i 0))
resolve image code at i Family.CheckCast = on_pool (slice_get code.method.info.types i.index) (λ t. Ok (Cast (reg i 0) t))
resolve image code at i Family.InstanceOf = on_pool (slice_get code.method.info.types i.index) (λ t. Ok (InstanceOf (reg i 0) (reg i 1) t))
resolve image code at i Family.ArrayLength = Ok (ArrayLength (reg i 0) (reg i 1))
resolve image code at i Family.NewInstance = on_pool (slice_get code.method.info.types i.index) (new_op image (reg i 0))
resolve image code at i Family.NewArray = on_pool (slice_get code.method.info.types i.index) (λ t. Ok (NewArray (reg i 0) (reg i 1) t))
resolve image code at i Family.FilledNewArray =
    on_pool (slice_get code.method.info.types i.index) (λ t. Ok (Filled (named_registers i.regs) t))
resolve image code at i Family.FillArrayData = fill_op (reg i 0) (payload_at code.tiles (jump at i.off))
resolve image code at i Family.Throw = Ok (Throw (reg i 0))
resolve image code at i Family.Goto = Ok (Goto (jump at i.off))
resolve image code at i Family.PackedSwitch = packed_op at (reg i 0) (payload_at code.tiles (jump at i.off))
resolve image code at i Family.SparseSwitch = sparse_op at (reg i 0) (payload_at code.tiles (jump at i.off))
resolve image code at i Family.CmpLong = Ok (CompareLong (reg i 0) (reg i 1) (reg i 2))
resolve image code at i (Family.If test) = Ok (IfBoth test (reg i 0) (reg i 1) (jump at i.off))
resolve image code at i (Family.IfZero test) = Ok (IfZero test (reg i 0) (jump at i.off))
resolve image code at i (Family.ArrayGet s) = Ok (ArrayGet s (reg i 0) (reg i 1) (reg i 2))
resolve image code at i (Family.ArrayPut s) = Ok (ArrayPut s (reg i 0) (reg i 1) (reg i 2))
resolve image code at i (Family.FieldGet s) =
    on_pool (resolved_field image (slice_get code.method.info.fields i.index)) (λ x. Ok (FieldGet s (reg i 0) (reg i 1) x))
resolve image code at i (Family.FieldPut s) =
    on_pool (resolved_field image (slice_get code.method.info.fields i.index)) (λ x. Ok (FieldPut s (reg i 0) (reg i 1) x))
resolve image code at i (Family.StaticGet s) =
    on_pool (resolved_field image (slice_get code.method.info.fields i.index)) (λ x. Ok (StaticGet s (reg i 0) x))
resolve image code at i (Family.StaticPut s) =
    on_pool (resolved_field image (slice_get code.method.info.fields i.index)) (λ x. Ok (StaticPut s (reg i 0) x))
resolve image code at i (Family.Invoke c) =
    on_pool (resolved_method image (slice_get code.method.info.methods i.index))
    (λ m. Ok (Invoke c (named_registers i.regs) m))
resolve image code at i (Family.IntUnary o) = Ok (IntUnary o (reg i 0) (reg i 1))
resolve image code at i (Family.LongUnary o) = Ok (LongUnary o (reg i 0) (reg i 1))
resolve image code at i Family.IntToLong = Ok (IntToLong (reg i 0) (reg i 1))
resolve image code at i Family.LongToInt = Ok (LongToInt (reg i 0) (reg i 1))
resolve image code at i (Family.IntBinary o) = Ok (int_op o (reg i 0) (reg i 1) (Reg (reg i 2)))
resolve image code at i (Family.LongBinary o) = Ok (long_op o (reg i 0) (reg i 1) (reg i 2))
resolve image code at i (Family.IntTwo o) = Ok (int_op o (reg i 0) (reg i 0) (Reg (reg i 1)))
resolve image code at i (Family.LongTwo o) = Ok (long_op o (reg i 0) (reg i 0) (reg i 1))
resolve image code at i (Family.IntLiteral o) = Ok (int_op o (reg i 0) (reg i 1) (Lit i.lit))

abbrev pub resolve_by : Image → Code → ℕ → Insn → Option Family → Resolved
resolve_by image code at i None = Err (rule.S 1)
resolve_by image code at i (Some fm) = resolve image code at i fm

-- the operation of an instruction at an address
abbrev pub op_of : Image → Code → ℕ → Insn → Resolved
op_of image code at i = resolve_by image code at i (family_at i.op)

-- which instructions can throw (own: instance-of does not)
abbrev pub can_throw : Op → Bool
can_throw (IntDivide o a b c) = true
can_throw (LongDivide o a b c) = true
can_throw (ConstString a s) = true
can_throw (ConstClass a t) = true
can_throw (Enter a) = true
can_throw (Exit a) = true
can_throw (Cast a t) = true
can_throw (ArrayLength a b) = true
can_throw (New a c) = true
can_throw (NewArray a b t) = true
can_throw (Filled rs t) = true
can_throw (Fill a n vs) = true
can_throw (Throw a) = true
can_throw (ArrayGet s a b c) = true
can_throw (ArrayPut s a b c) = true
can_throw (FieldGet s a b x) = true
can_throw (FieldPut s a b x) = true
can_throw (StaticGet s a x) = true
can_throw (StaticPut s a x) = true
can_throw (Invoke c args m) = true
can_throw op = false

abbrev pub is_return : Op → Bool
is_return ReturnVoid = true
is_return (Return x a) = true
is_return op = false

abbrev pub is_instance_of : Op → Bool
is_instance_of (InstanceOf a b t) = true
is_instance_of op = false

-- touches one frame alone
abbrev pub is_local : Op → Bool
is_local op = not (can_throw op) && not (is_return op) && not (is_instance_of op)

-- the class that an instruction needs initialised (JLS 12.4.1)
abbrev pub needs : Op → Option ℕ
needs (New a c) = Some c
needs (StaticGet s a x) = Some x.info.class.0
needs (StaticPut s a x) = Some x.info.class.0
needs (Invoke Call.Static args m) = Some m.info.class.0
needs op = None
