-- What the operations of the code are in the definitions.
use Rattle.std.specs.Prelude.{ℕ, Bool, true, false, List, [], ◌∷◌, length, ◌/◌, ℤ, Option, Some, None, Result, Ok, Err, option_map}
use Rattle.dv_defs.specs.declared.code.Insn.{Insn}
use Rattle.dv_defs.specs.declared.code.Payload.{Payload}
use Rattle.dv_defs.specs.declared.code.Payload.TheVariants as payload
use Rattle.dv_defs.specs.declared.faults.Rule.{Rule}
use Rattle.dv_defs.specs.Images.{Image}
use Rattle.dv_defs.specs.Numbers.{jump, elements}
use Rattle.dv_defs.specs.Tiling.{tiling, tiles_in, payload_at}
use Rattle.dv_defs.specs.Families.{Family, family_at}
use Rattle.dv_defs.specs.Pools as pools
use Rattle.dv_defs.specs.Op as def
use Rattle.dv_defs.specs.Op.{Code, Case, Resolved, cases_packed, cases_sparse, named_registers}
use Rattle.dv_units.specs.Tables.{standard_width, standard_test, standard_suffix, standard_call, standard_bin, standard_unary}
use Rattle.dv_ops.specs.declared.members.Method.{Method}
use Rattle.dv_ops.specs.declared.members.Field.{Field}
use Rattle.dv_ops.specs.declared.members.Coded.{Coded}
use Rattle.dv_ops.specs.declared.op.Arg.{Arg}
use Rattle.dv_ops.specs.declared.op.Arg.TheVariants as arg
use Rattle.dv_ops.specs.declared.op.Op.{Op}
use Rattle.dv_ops.specs.declared.op.Op.TheVariants as op

-- a method, a field and a method with a body, as the definitions have them
abbrev pub method_of : Method → pools.Method
method_of m = record { id = m.id.0; info = m.info.now; def = m.def.now }

abbrev pub field_of : Field → pools.Field
field_of f = record { id = f.id.0; info = f.info; def = f.def.now }

abbrev pub code_of : Coded → Code
code_of c = record { method = method_of c.method; body = c.body.now; tiles = tiles_in (tiling c.body.now.units) }

abbrev pub arg_of : Arg → def.Arg
arg_of (arg.Reg r) = def.Reg r
arg_of (arg.Lit n) = def.Lit n

-- the cases of the switch at an address, by its payload
abbrev pub cases_in : ℕ → Option Payload → List Case
cases_in at (Some (payload.Packed k ts)) = cases_packed at k ts
cases_in at (Some (payload.Sparse ks ts)) = cases_sparse at ks ts
cases_in at p = []

-- the size of the elements that a payload fills, and the elements
abbrev pub width_in : Option Payload → ℕ
width_in (Some (payload.Data width bytes)) = width
width_in p = 0

abbrev pub elements_in : Option Payload → List ℤ
elements_in (Some (payload.Data width bytes)) = elements (length bytes / width) width bytes
elements_in p = []

-- the operation at an address of a body; of a switch and of fill-array-data the code keeps where the payload stands
abbrev pub meant : Code → ℕ → Op → def.Op
meant code at op.Nop = def.Nop
meant code at (op.MoveInt a b) = def.MoveInt a b
meant code at (op.MoveLong a b) = def.MoveLong a b
meant code at (op.MoveObject a b) = def.MoveObject a b
meant code at (op.ResultInt a) = def.ResultInt a
meant code at (op.ResultLong a) = def.ResultLong a
meant code at (op.ResultObject a) = def.ResultObject a
meant code at (op.TakeCaught a) = def.TakeCaught a
meant code at (op.Const a n) = def.Const a n
meant code at (op.ConstLong a n) = def.ConstLong a n
meant code at (op.IntUnary o a b) = def.IntUnary (standard_unary o) a b
meant code at (op.LongUnary o a b) = def.LongUnary (standard_unary o) a b
meant code at (op.IntToLong a b) = def.IntToLong a b
meant code at (op.LongToInt a b) = def.LongToInt a b
meant code at (op.IntOp o a b c) = def.IntOp (standard_bin o) a b (arg_of c)
meant code at (op.LongOp o a b c) = def.LongOp (standard_bin o) a b c
meant code at (op.LongShift o a b c) = def.LongShift (standard_bin o) a b c
meant code at (op.CompareLong a b c) = def.CompareLong a b c
meant code at (op.Goto to) = def.Goto to
meant code at (op.IfBoth t a b to) = def.IfBoth (standard_test t) a b to
meant code at (op.IfZero t a to) = def.IfZero (standard_test t) a to
meant code at (op.Switch a to) = def.Switch a (cases_in at (payload_at code.tiles to))
meant code at (op.IntDivide o a b c) = def.IntDivide (standard_bin o) a b (arg_of c)
meant code at (op.LongDivide o a b c) = def.LongDivide (standard_bin o) a b c
meant code at (op.ConstString a s) = def.ConstString a s.now
meant code at (op.ConstClass a t) = def.ConstClass a t.now
meant code at (op.Enter a) = def.Enter a
meant code at (op.Exit a) = def.Exit a
meant code at (op.Cast a t) = def.Cast a t.now
meant code at (op.InstanceOf a b t) = def.InstanceOf a b t.now
meant code at (op.ArrayLength a b) = def.ArrayLength a b
meant code at (op.New a c) = def.New a c.0
meant code at (op.NewArray a b t) = def.NewArray a b t.now
meant code at (op.Filled regs t) = def.Filled (named_registers regs) t.now
meant code at (op.Fill a to) = def.Fill a (width_in (payload_at code.tiles to)) (elements_in (payload_at code.tiles to))
meant code at (op.Throw a) = def.Throw a
meant code at (op.ArrayGet s a b c) = def.ArrayGet (standard_suffix s) a b c
meant code at (op.ArrayPut s a b c) = def.ArrayPut (standard_suffix s) a b c
meant code at (op.FieldGet s a b f) = def.FieldGet (standard_suffix s) a b (field_of f)
meant code at (op.FieldPut s a b f) = def.FieldPut (standard_suffix s) a b (field_of f)
meant code at (op.StaticGet s a f) = def.StaticGet (standard_suffix s) a (field_of f)
meant code at (op.StaticPut s a f) = def.StaticPut (standard_suffix s) a (field_of f)
meant code at (op.Invoke c regs m) = def.Invoke (standard_call c) (named_registers regs) (method_of m)
meant code at op.ReturnVoid = def.ReturnVoid
meant code at (op.Return x a) = def.Return (standard_width x) a

abbrev pub meant_or_rule : Code → ℕ → Result Op Rule → Resolved
meant_or_rule code at (Ok o) = Ok (meant code at o)
meant_or_rule code at (Err broken) = Err broken

-- the payload of the instruction's kind stands where the instruction says
abbrev pub is_packed : Option Payload → Bool
is_packed (Some (payload.Packed k ts)) = true
is_packed p = false

abbrev pub is_sparse : Option Payload → Bool
is_sparse (Some (payload.Sparse ks ts)) = true
is_sparse p = false

abbrev pub is_data : Option Payload → Bool
is_data (Some (payload.Data width bytes)) = true
is_data p = false

abbrev pub has_payload_of : Option Family → Option Payload → Bool
has_payload_of (Some Family.PackedSwitch) p = is_packed p
has_payload_of (Some Family.SparseSwitch) p = is_sparse p
has_payload_of (Some Family.FillArrayData) p = is_data p
has_payload_of f p = true

abbrev pub has_payload : Code → ℕ → Insn → Bool
has_payload code at i = has_payload_of (family_at i.op) (payload_at code.tiles (jump at i.off))
