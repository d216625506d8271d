-- The families of instructions, and the family of each opcode (AOSP, "Dalvik bytecode format").
use Rattle.std.specs.Prelude.{ℕ, ◌-◌, nat_lt, Option, Some, None, if◌then◌else◌}
use Rattle.dv_defs.specs.declared.code.PoolKind.{PoolKind}
use Rattle.dv_defs.specs.declared.code.PoolKind.TheVariants as pool
use Rattle.dv_defs.specs.Parts.{Width, Test, Suffix, Call, Bin, Unary, width_at, test_at, suffix_at, call_at, binary_at, literal_at}

-- `IntTwo` and `LongTwo` are the forms /2addr, `IntLiteral` those of /lit16 and /lit8
pub data Family : Type 0 where
  Nop : Family
  Move : (width : Width) → Family
  MoveResult : (width : Width) → Family
  MoveException : Family
  ReturnVoid : Family
  Return : (width : Width) → Family
  Const : Family
  ConstWide : Family
  ConstString : Family
  ConstClass : Family
  MonitorEnter : Family
  MonitorExit : Family
  CheckCast : Family
  InstanceOf : Family
  ArrayLength : Family
  NewInstance : Family
  NewArray : Family
  FilledNewArray : Family
  FillArrayData : Family
  Throw : Family
  Goto : Family
  PackedSwitch : Family
  SparseSwitch : Family
  CmpLong : Family
  If : (test : Test) → Family
  IfZero : (test : Test) → Family
  ArrayGet : (suffix : Suffix) → Family
  ArrayPut : (suffix : Suffix) → Family
  FieldGet : (suffix : Suffix) → Family
  FieldPut : (suffix : Suffix) → Family
  StaticGet : (suffix : Suffix) → Family
  StaticPut : (suffix : Suffix) → Family
  Invoke : (call : Call) → Family
  IntUnary : (operation : Unary) → Family
  LongUnary : (operation : Unary) → Family
  IntToLong : Family
  LongToInt : Family
  IntBinary : (operation : Bin) → Family
  LongBinary : (operation : Bin) → Family
  IntTwo : (operation : Bin) → Family
  LongTwo : (operation : Bin) → Family
  IntLiteral : (operation : Bin) → Family

-- the family of an opcode, none where the opcode is unused or a float's
abbrev pub family_at : ℕ → Option Family
family_at op =
    if nat_lt op 0x01 then Some Nop else
    if nat_lt op 0x04 then Some (Move Width.Narrow) else
    if nat_lt op 0x07 then Some (Move Width.Wide) else
    if nat_lt op 0x0a then Some (Move Width.Reference) else
    if nat_lt op 0x0d then Some (MoveResult (width_at (op - 0x0a))) else
    if nat_lt op 0x0e then Some MoveException else
    if nat_lt op 0x0f then Some ReturnVoid else
    if nat_lt op 0x12 then Some (Return (width_at (op - 0x0f))) else
    if nat_lt op 0x16 then Some Const else
    if nat_lt op 0x1a then Some ConstWide else
    if nat_lt op 0x1c then Some ConstString else
    if nat_lt op 0x1d then Some ConstClass else
    if nat_lt op 0x1e then Some MonitorEnter else
    if nat_lt op 0x1f then Some MonitorExit else
    if nat_lt op 0x20 then Some CheckCast else
    if nat_lt op 0x21 then Some InstanceOf else
    if nat_lt op 0x22 then Some ArrayLength else
    if nat_lt op 0x23 then Some NewInstance else
    if nat_lt op 0x24 then Some NewArray else
    if nat_lt op 0x26 then Some FilledNewArray else
    if nat_lt op 0x27 then Some FillArrayData else
    if nat_lt op 0x28 then Some Throw else
    if nat_lt op 0x2b then Some Goto else
    if nat_lt op 0x2c then Some PackedSwitch else
    if nat_lt op 0x2d then Some SparseSwitch else
    if nat_lt op 0x31 then None else
    if nat_lt op 0x32 then Some CmpLong else
    if nat_lt op 0x38 then Some (If (test_at (op - 0x32))) else
    if nat_lt op 0x3e then Some (IfZero (test_at (op - 0x38))) else
    if nat_lt op 0x44 then None else
    if nat_lt op 0x4b then Some (ArrayGet (suffix_at (op - 0x44))) else
    if nat_lt op 0x52 then Some (ArrayPut (suffix_at (op - 0x4b))) else
    if nat_lt op 0x59 then Some (FieldGet (suffix_at (op - 0x52))) else
    if nat_lt op 0x60 then Some (FieldPut (suffix_at (op - 0x59))) else
    if nat_lt op 0x67 then Some (StaticGet (suffix_at (op - 0x60))) else
    if nat_lt op 0x6e then Some (StaticPut (suffix_at (op - 0x67))) else
    if nat_lt op 0x73 then Some (Invoke (call_at (op - 0x6e))) else
    if nat_lt op 0x74 then None else
    if nat_lt op 0x79 then Some (Invoke (call_at (op - 0x74))) else
    if nat_lt op 0x7b then None else
    if nat_lt op 0x7c then Some (IntUnary Unary.Neg) else
    if nat_lt op 0x7d then Some (IntUnary Unary.Not) else
    if nat_lt op 0x7e then Some (LongUnary Unary.Neg) else
    if nat_lt op 0x7f then Some (LongUnary Unary.Not) else
    if nat_lt op 0x81 then None else
    if nat_lt op 0x82 then Some IntToLong else
    if nat_lt op 0x84 then None else
    if nat_lt op 0x85 then Some LongToInt else
    if nat_lt op 0x8d then None else
    if nat_lt op 0x8e then Some (IntUnary Unary.ToByte) else
    if nat_lt op 0x8f then Some (IntUnary Unary.ToChar) else
    if nat_lt op 0x90 then Some (IntUnary Unary.ToShort) else
    if nat_lt op 0x9b then Some (IntBinary (binary_at (op - 0x90))) else
    if nat_lt op 0xa6 then Some (LongBinary (binary_at (op - 0x9b))) else
    if nat_lt op 0xb0 then None else
    if nat_lt op 0xbb then Some (IntTwo (binary_at (op - 0xb0))) else
    if nat_lt op 0xc6 then Some (LongTwo (binary_at (op - 0xbb))) else
    if nat_lt op 0xd0 then None else
    if nat_lt op 0xd8 then Some (IntLiteral (literal_at (op - 0xd0))) else
    if nat_lt op 0xe3 then Some (IntLiteral (literal_at (op - 0xd8))) else
    None

-- the pool of a body that an instruction's index is a place in, by the instruction's family
abbrev pub pool_in : Option Family → Option PoolKind
pool_in (Some ConstString) = Some pool.Strings
pool_in (Some ConstClass) = Some pool.Types
pool_in (Some CheckCast) = Some pool.Types
pool_in (Some InstanceOf) = Some pool.Types
pool_in (Some NewInstance) = Some pool.Types
pool_in (Some NewArray) = Some pool.Types
pool_in (Some FilledNewArray) = Some pool.Types
pool_in (Some (FieldGet suffix)) = Some pool.Fields
pool_in (Some (FieldPut suffix)) = Some pool.Fields
pool_in (Some (StaticGet suffix)) = Some pool.Fields
pool_in (Some (StaticPut suffix)) = Some pool.Fields
pool_in (Some (Invoke call)) = Some pool.Methods
pool_in family = None

-- ... and by its opcode
unfoldable pub pool_at : ℕ → Option PoolKind
pool_at op = pool_in (family_at op)
