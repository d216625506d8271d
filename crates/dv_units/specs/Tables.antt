-- The table of opcodes in the definitions' words: its formats and families, and what its rows say of the machine's operations.
use Rattle.std.specs.Prelude.{ℕ, ◌≡◌, ◌<◌, Bool, Some, Ok, is_some, option_map}
use Rattle.dv_defs.specs.declared.code.Insn.{Insn}
use Rattle.dv_defs.specs.Images.{Image}
use Rattle.dv_defs.specs.Formats as formats
use Rattle.dv_defs.specs.Formats.{format_at, is_float}
use Rattle.dv_defs.specs.Parts as parts
use Rattle.dv_defs.specs.Families as families
use Rattle.dv_defs.specs.Families.{family_at}
use Rattle.dv_defs.specs.Op as machine
use Rattle.dv_defs.specs.Op.{Op, Code, op_of}
use Rattle.dv_optable.specs.Table as table
use Rattle.dv_optable.specs.Families.{can_throw, is_local}
use Rattle.dv_optable.specs.declared.format.Format.{Format}
use Rattle.dv_optable.specs.declared.format.Format.TheVariants.{F10x, F12x, F11n, F11x, F10t, F20t, F22x, F21t, F21s, F21h, F21c, F23x, F22b, F22t, F22s, F22c, F30t, F32x, F31i, F31t, F31c, F35c, F3rc, F51l}
use Rattle.dv_optable.specs.declared.family.Family.{Family}
use Rattle.dv_optable.specs.declared.family.Family.TheVariants as family
use Rattle.dv_optable.specs.declared.family.Width.{Width}
use Rattle.dv_optable.specs.declared.family.Width.TheVariants as width
use Rattle.dv_optable.specs.declared.family.Test.{Test}
use Rattle.dv_optable.specs.declared.family.Test.TheVariants as test
use Rattle.dv_optable.specs.declared.family.Suffix.{Suffix}
use Rattle.dv_optable.specs.declared.family.Suffix.TheVariants as suffix
use Rattle.dv_optable.specs.declared.family.Call.{Call}
use Rattle.dv_optable.specs.declared.family.Call.TheVariants as call
use Rattle.dv_optable.specs.declared.family.Bin.{Bin}
use Rattle.dv_optable.specs.declared.family.Bin.TheVariants as bin
use Rattle.dv_optable.specs.declared.family.Unary.{Unary}
use Rattle.dv_optable.specs.declared.family.Unary.TheVariants as unary

-- the format of the same name
abbrev pub standard : Format → formats.Format
standard F10x = formats.F10x
standard F12x = formats.F12x
standard F11n = formats.F11n
standard F11x = formats.F11x
standard F10t = formats.F10t
standard F20t = formats.F20t
standard F22x = formats.F22x
standard F21t = formats.F21t
standard F21s = formats.F21s
standard F21h = formats.F21h
standard F21c = formats.F21c
standard F23x = formats.F23x
standard F22b = formats.F22b
standard F22t = formats.F22t
standard F22s = formats.F22s
standard F22c = formats.F22c
standard F30t = formats.F30t
standard F32x = formats.F32x
standard F31i = formats.F31i
standard F31t = formats.F31t
standard F31c = formats.F31c
standard F35c = formats.F35c
standard F3rc = formats.F3rc
standard F51l = formats.F51l

-- the parts of families, and the family, of the same name
abbrev pub standard_width : Width → parts.Width
standard_width width.Narrow = parts.Width.Narrow
standard_width width.Wide = parts.Width.Wide
standard_width width.Reference = parts.Width.Reference

abbrev pub standard_test : Test → parts.Test
standard_test test.Eq = parts.Test.Eq
standard_test test.Ne = parts.Test.Ne
standard_test test.Lt = parts.Test.Lt
standard_test test.Ge = parts.Test.Ge
standard_test test.Gt = parts.Test.Gt
standard_test test.Le = parts.Test.Le

abbrev pub standard_suffix : Suffix → parts.Suffix
standard_suffix suffix.Int = parts.Suffix.Int
standard_suffix suffix.Long = parts.Suffix.Long
standard_suffix suffix.Object = parts.Suffix.Object
standard_suffix suffix.Boolean = parts.Suffix.Boolean
standard_suffix suffix.Byte = parts.Suffix.Byte
standard_suffix suffix.Char = parts.Suffix.Char
standard_suffix suffix.Short = parts.Suffix.Short

abbrev pub standard_call : Call → parts.Call
standard_call call.Virtual = parts.Call.Virtual
standard_call call.Super = parts.Call.Super
standard_call call.Direct = parts.Call.Direct
standard_call call.Static = parts.Call.Static
standard_call call.Interface = parts.Call.Interface

abbrev pub standard_bin : Bin → parts.Bin
standard_bin bin.Add = parts.Bin.Add
standard_bin bin.Sub = parts.Bin.Sub
standard_bin bin.Rsub = parts.Bin.Rsub
standard_bin bin.Mul = parts.Bin.Mul
standard_bin bin.Div = parts.Bin.Div
standard_bin bin.Rem = parts.Bin.Rem
standard_bin bin.And = parts.Bin.And
standard_bin bin.Or = parts.Bin.Or
standard_bin bin.Xor = parts.Bin.Xor
standard_bin bin.Shl = parts.Bin.Shl
standard_bin bin.Shr = parts.Bin.Shr
standard_bin bin.Ushr = parts.Bin.Ushr

abbrev pub standard_unary : Unary → parts.Unary
standard_unary unary.Neg = parts.Unary.Neg
standard_unary unary.Not = parts.Unary.Not
standard_unary unary.ToByte = parts.Unary.ToByte
standard_unary unary.ToChar = parts.Unary.ToChar
standard_unary unary.ToShort = parts.Unary.ToShort

abbrev pub standard_family : Family → families.Family
standard_family family.Nop = families.Nop
standard_family (family.Move x) = families.Move (standard_width x)
standard_family (family.MoveResult x) = families.MoveResult (standard_width x)
standard_family family.MoveException = families.MoveException
standard_family family.ReturnVoid = families.ReturnVoid
standard_family (family.Return x) = families.Return (standard_width x)
standard_family family.Const = families.Const
standard_family family.ConstWide = families.ConstWide
standard_family family.ConstString = families.ConstString
standard_family family.ConstClass = families.ConstClass
standard_family family.MonitorEnter = families.MonitorEnter
standard_family family.MonitorExit = families.MonitorExit
standard_family family.CheckCast = families.CheckCast
standard_family family.InstanceOf = families.InstanceOf
standard_family family.ArrayLength = families.ArrayLength
standard_family family.NewInstance = families.NewInstance
standard_family family.NewArray = families.NewArray
standard_family family.FilledNewArray = families.FilledNewArray
standard_family family.FillArrayData = families.FillArrayData
standard_family family.Throw = families.Throw
standard_family family.Goto = families.Goto
standard_family family.PackedSwitch = families.PackedSwitch
standard_family family.SparseSwitch = families.SparseSwitch
standard_family family.CmpLong = families.CmpLong
standard_family (family.If x) = families.If (standard_test x)
standard_family (family.IfZero x) = families.IfZero (standard_test x)
standard_family (family.ArrayGet x) = families.ArrayGet (standard_suffix x)
standard_family (family.ArrayPut x) = families.ArrayPut (standard_suffix x)
standard_family (family.FieldGet x) = families.FieldGet (standard_suffix x)
standard_family (family.FieldPut x) = families.FieldPut (standard_suffix x)
standard_family (family.StaticGet x) = families.StaticGet (standard_suffix x)
standard_family (family.StaticPut x) = families.StaticPut (standard_suffix x)
standard_family (family.Invoke x) = families.Invoke (standard_call x)
standard_family (family.IntUnary x) = families.IntUnary (standard_unary x)
standard_family (family.LongUnary x) = families.LongUnary (standard_unary x)
standard_family family.IntToLong = families.IntToLong
standard_family family.LongToInt = families.LongToInt
standard_family (family.IntBinary x) = families.IntBinary (standard_bin x)
standard_family (family.LongBinary x) = families.LongBinary (standard_bin x)
standard_family (family.IntTwo x) = families.IntTwo (standard_bin x)
standard_family (family.LongTwo x) = families.LongTwo (standard_bin x)
standard_family (family.IntLiteral x) = families.IntLiteral (standard_bin x)

-- an opcode with a format
abbrev pub has_format : ℕ → Bool
has_format op = is_some (format_at op)

-- The table's formats, families and opcodes of floats are those of the definitions.
abbrev pub FormatsAgree : Type 0
FormatsAgree = (op : ℕ) → op < 256 → option_map standard (table.format_at op) ≡ format_at op

abbrev pub FamiliesAgree : Type 0
FamiliesAgree = (op : ℕ) → op < 256 → option_map standard_family (table.family_at op) ≡ family_at op

abbrev pub FloatsAgree : Type 0
FloatsAgree = (op : ℕ) → op < 256 → table.is_float op ≡ is_float op

-- What the row of an instruction's opcode says, that it can throw and that it is local, holds of its operation in every image.
abbrev pub ThrowsAgree : Type 0
ThrowsAgree = (image : Image) (code : Code) (at : ℕ) (i : Insn) (op : Op) → i.op < 256 → op_of image code at i ≡ Ok op →
    option_map can_throw (table.family_at i.op) ≡ Some (machine.can_throw op)

abbrev pub LocalsAgree : Type 0
LocalsAgree = (image : Image) (code : Code) (at : ℕ) (i : Insn) (op : Op) → i.op < 256 → op_of image code at i ≡ Ok op →
    option_map is_local (table.family_at i.op) ≡ Some (machine.is_local op)
