-- The table of opcodes, as the page "Dalvik bytecode" of the Android documents has it, without those of floats.
use Rattle.std.specs.Prelude.{ℕ, ◌≡◌, ◌-◌, ◌==◌, ◌||◌, Bool, false, List, [], ◌∷◌, map, Option, Some, None, option_map, find, nat_lt, codes, bytes_eq, if◌then◌else◌}
use Rattle.std.specs.Int.{is_in_range}
use Rattle.dv_optable.specs.Families.{can_throw, is_return, is_instance_of}
use Rattle.dv_optable.specs.declared.format.Format.{Format}
use Rattle.dv_optable.specs.declared.format.Format.TheVariants as f
use Rattle.dv_optable.specs.declared.family.Family.{Family}
use Rattle.dv_optable.specs.declared.family.Family.TheVariants as fam
use Rattle.dv_optable.specs.declared.family.Width.TheVariants as w
use Rattle.dv_optable.specs.declared.family.Test.TheVariants as test
use Rattle.dv_optable.specs.declared.family.Suffix.TheVariants as sfx
use Rattle.dv_optable.specs.declared.family.Call.TheVariants as call
use Rattle.dv_optable.specs.declared.family.Bin.TheVariants as bin
use Rattle.dv_optable.specs.declared.family.Unary.TheVariants as u

-- a row; that its instruction can throw, and that it is local, follow from its family
pub record Entry : Type 0 where
  pub opcode : ℕ
  pub name : List ℕ
  pub format : Format
  pub family : Family

abbrev pub row : ℕ → List ℕ → Format → Family → Entry
row opcode name format family = record { opcode = opcode; name = name; format = format; family = family }

unfoldable pub table : List Entry
table =
    row 0x00 (codes "nop") f.F10x fam.Nop ∷
    row 0x01 (codes "move") f.F12x (fam.Move w.Narrow) ∷
    row 0x02 (codes "move/from16") f.F22x (fam.Move w.Narrow) ∷
    row 0x03 (codes "move/16") f.F32x (fam.Move w.Narrow) ∷
    row 0x04 (codes "move-wide") f.F12x (fam.Move w.Wide) ∷
    row 0x05 (codes "move-wide/from16") f.F22x (fam.Move w.Wide) ∷
    row 0x06 (codes "move-wide/16") f.F32x (fam.Move w.Wide) ∷
    row 0x07 (codes "move-object") f.F12x (fam.Move w.Reference) ∷
    row 0x08 (codes "move-object/from16") f.F22x (fam.Move w.Reference) ∷
    row 0x09 (codes "move-object/16") f.F32x (fam.Move w.Reference) ∷
    row 0x0a (codes "move-result") f.F11x (fam.MoveResult w.Narrow) ∷
    row 0x0b (codes "move-result-wide") f.F11x (fam.MoveResult w.Wide) ∷
    row 0x0c (codes "move-result-object") f.F11x (fam.MoveResult w.Reference) ∷
    row 0x0d (codes "move-exception") f.F11x fam.MoveException ∷
    row 0x0e (codes "return-void") f.F10x fam.ReturnVoid ∷
    row 0x0f (codes "return") f.F11x (fam.Return w.Narrow) ∷
    row 0x10 (codes "return-wide") f.F11x (fam.Return w.Wide) ∷
    row 0x11 (codes "return-object") f.F11x (fam.Return w.Reference) ∷
    row 0x12 (codes "const/4") f.F11n fam.Const ∷
    row 0x13 (codes "const/16") f.F21s fam.Const ∷
    row 0x14 (codes "const") f.F31i fam.Const ∷
    row 0x15 (codes "const/high16") f.F21h fam.Const ∷
    row 0x16 (codes "const-wide/16") f.F21s fam.ConstWide ∷
    row 0x17 (codes "const-wide/32") f.F31i fam.ConstWide ∷
    row 0x18 (codes "const-wide") f.F51l fam.ConstWide ∷
    row 0x19 (codes "const-wide/high16") f.F21h fam.ConstWide ∷
    row 0x1a (codes "const-string") f.F21c fam.ConstString ∷
    row 0x1b (codes "const-string/jumbo") f.F31c fam.ConstString ∷
    row 0x1c (codes "const-class") f.F21c fam.ConstClass ∷
    row 0x1d (codes "monitor-enter") f.F11x fam.MonitorEnter ∷
    row 0x1e (codes "monitor-exit") f.F11x fam.MonitorExit ∷
    row 0x1f (codes "check-cast") f.F21c fam.CheckCast ∷
    row 0x20 (codes "instance-of") f.F22c fam.InstanceOf ∷
    row 0x21 (codes "array-length") f.F12x fam.ArrayLength ∷
    row 0x22 (codes "new-instance") f.F21c fam.NewInstance ∷
    row 0x23 (codes "new-array") f.F22c fam.NewArray ∷
    row 0x24 (codes "filled-new-array") f.F35c fam.FilledNewArray ∷
    row 0x25 (codes "filled-new-array/range") f.F3rc fam.FilledNewArray ∷
    row 0x26 (codes "fill-array-data") f.F31t fam.FillArrayData ∷
    row 0x27 (codes "throw") f.F11x fam.Throw ∷
    row 0x28 (codes "goto") f.F10t fam.Goto ∷
    row 0x29 (codes "goto/16") f.F20t fam.Goto ∷
    row 0x2a (codes "goto/32") f.F30t fam.Goto ∷
    row 0x2b (codes "packed-switch") f.F31t fam.PackedSwitch ∷
    row 0x2c (codes "sparse-switch") f.F31t fam.SparseSwitch ∷
    row 0x31 (codes "cmp-long") f.F23x fam.CmpLong ∷
    row 0x32 (codes "if-eq") f.F22t (fam.If test.Eq) ∷
    row 0x33 (codes "if-ne") f.F22t (fam.If test.Ne) ∷
    row 0x34 (codes "if-lt") f.F22t (fam.If test.Lt) ∷
    row 0x35 (codes "if-ge") f.F22t (fam.If test.Ge) ∷
    row 0x36 (codes "if-gt") f.F22t (fam.If test.Gt) ∷
    row 0x37 (codes "if-le") f.F22t (fam.If test.Le) ∷
    row 0x38 (codes "if-eqz") f.F21t (fam.IfZero test.Eq) ∷
    row 0x39 (codes "if-nez") f.F21t (fam.IfZero test.Ne) ∷
    row 0x3a (codes "if-ltz") f.F21t (fam.IfZero test.Lt) ∷
    row 0x3b (codes "if-gez") f.F21t (fam.IfZero test.Ge) ∷
    row 0x3c (codes "if-gtz") f.F21t (fam.IfZero test.Gt) ∷
    row 0x3d (codes "if-lez") f.F21t (fam.IfZero test.Le) ∷
    row 0x44 (codes "aget") f.F23x (fam.ArrayGet sfx.Int) ∷
    row 0x45 (codes "aget-wide") f.F23x (fam.ArrayGet sfx.Long) ∷
    row 0x46 (codes "aget-object") f.F23x (fam.ArrayGet sfx.Object) ∷
    row 0x47 (codes "aget-boolean") f.F23x (fam.ArrayGet sfx.Boolean) ∷
    row 0x48 (codes "aget-byte") f.F23x (fam.ArrayGet sfx.Byte) ∷
    row 0x49 (codes "aget-char") f.F23x (fam.ArrayGet sfx.Char) ∷
    row 0x4a (codes "aget-short") f.F23x (fam.ArrayGet sfx.Short) ∷
    row 0x4b (codes "aput") f.F23x (fam.ArrayPut sfx.Int) ∷
    row 0x4c (codes "aput-wide") f.F23x (fam.ArrayPut sfx.Long) ∷
    row 0x4d (codes "aput-object") f.F23x (fam.ArrayPut sfx.Object) ∷
    row 0x4e (codes "aput-boolean") f.F23x (fam.ArrayPut sfx.Boolean) ∷
    row 0x4f (codes "aput-byte") f.F23x (fam.ArrayPut sfx.Byte) ∷
    row 0x50 (codes "aput-char") f.F23x (fam.ArrayPut sfx.Char) ∷
    row 0x51 (codes "aput-short") f.F23x (fam.ArrayPut sfx.Short) ∷
    row 0x52 (codes "iget") f.F22c (fam.FieldGet sfx.Int) ∷
    row 0x53 (codes "iget-wide") f.F22c (fam.FieldGet sfx.Long) ∷
    row 0x54 (codes "iget-object") f.F22c (fam.FieldGet sfx.Object) ∷
    row 0x55 (codes "iget-boolean") f.F22c (fam.FieldGet sfx.Boolean) ∷
    row 0x56 (codes "iget-byte") f.F22c (fam.FieldGet sfx.Byte) ∷
    row 0x57 (codes "iget-char") f.F22c (fam.FieldGet sfx.Char) ∷
    row 0x58 (codes "iget-short") f.F22c (fam.FieldGet sfx.Short) ∷
    row 0x59 (codes "iput") f.F22c (fam.FieldPut sfx.Int) ∷
    row 0x5a (codes "iput-wide") f.F22c (fam.FieldPut sfx.Long) ∷
    row 0x5b (codes "iput-object") f.F22c (fam.FieldPut sfx.Object) ∷
    row 0x5c (codes "iput-boolean") f.F22c (fam.FieldPut sfx.Boolean) ∷
    row 0x5d (codes "iput-byte") f.F22c (fam.FieldPut sfx.Byte) ∷
    row 0x5e (codes "iput-char") f.F22c (fam.FieldPut sfx.Char) ∷
    row 0x5f (codes "iput-short") f.F22c (fam.FieldPut sfx.Short) ∷
    row 0x60 (codes "sget") f.F21c (fam.StaticGet sfx.Int) ∷
    row 0x61 (codes "sget-wide") f.F21c (fam.StaticGet sfx.Long) ∷
    row 0x62 (codes "sget-object") f.F21c (fam.StaticGet sfx.Object) ∷
    row 0x63 (codes "sget-boolean") f.F21c (fam.StaticGet sfx.Boolean) ∷
    row 0x64 (codes "sget-byte") f.F21c (fam.StaticGet sfx.Byte) ∷
    row 0x65 (codes "sget-char") f.F21c (fam.StaticGet sfx.Char) ∷
    row 0x66 (codes "sget-short") f.F21c (fam.StaticGet sfx.Short) ∷
    row 0x67 (codes "sput") f.F21c (fam.StaticPut sfx.Int) ∷
    row 0x68 (codes "sput-wide") f.F21c (fam.StaticPut sfx.Long) ∷
    row 0x69 (codes "sput-object") f.F21c (fam.StaticPut sfx.Object) ∷
    row 0x6a (codes "sput-boolean") f.F21c (fam.StaticPut sfx.Boolean) ∷
    row 0x6b (codes "sput-byte") f.F21c (fam.StaticPut sfx.Byte) ∷
    row 0x6c (codes "sput-char") f.F21c (fam.StaticPut sfx.Char) ∷
    row 0x6d (codes "sput-short") f.F21c (fam.StaticPut sfx.Short) ∷
    row 0x6e (codes "invoke-virtual") f.F35c (fam.Invoke call.Virtual) ∷
    row 0x6f (codes "invoke-super") f.F35c (fam.Invoke call.Super) ∷
    row 0x70 (codes "invoke-direct") f.F35c (fam.Invoke call.Direct) ∷
    row 0x71 (codes "invoke-static") f.F35c (fam.Invoke call.Static) ∷
    row 0x72 (codes "invoke-interface") f.F35c (fam.Invoke call.Interface) ∷
    row 0x74 (codes "invoke-virtual/range") f.F3rc (fam.Invoke call.Virtual) ∷
    row 0x75 (codes "invoke-super/range") f.F3rc (fam.Invoke call.Super) ∷
    row 0x76 (codes "invoke-direct/range") f.F3rc (fam.Invoke call.Direct) ∷
    row 0x77 (codes "invoke-static/range") f.F3rc (fam.Invoke call.Static) ∷
    row 0x78 (codes "invoke-interface/range") f.F3rc (fam.Invoke call.Interface) ∷
    row 0x7b (codes "neg-int") f.F12x (fam.IntUnary u.Neg) ∷
    row 0x7c (codes "not-int") f.F12x (fam.IntUnary u.Not) ∷
    row 0x7d (codes "neg-long") f.F12x (fam.LongUnary u.Neg) ∷
    row 0x7e (codes "not-long") f.F12x (fam.LongUnary u.Not) ∷
    row 0x81 (codes "int-to-long") f.F12x fam.IntToLong ∷
    row 0x84 (codes "long-to-int") f.F12x fam.LongToInt ∷
    row 0x8d (codes "int-to-byte") f.F12x (fam.IntUnary u.ToByte) ∷
    row 0x8e (codes "int-to-char") f.F12x (fam.IntUnary u.ToChar) ∷
    row 0x8f (codes "int-to-short") f.F12x (fam.IntUnary u.ToShort) ∷
    row 0x90 (codes "add-int") f.F23x (fam.IntBinary bin.Add) ∷
    row 0x91 (codes "sub-int") f.F23x (fam.IntBinary bin.Sub) ∷
    row 0x92 (codes "mul-int") f.F23x (fam.IntBinary bin.Mul) ∷
    row 0x93 (codes "div-int") f.F23x (fam.IntBinary bin.Div) ∷
    row 0x94 (codes "rem-int") f.F23x (fam.IntBinary bin.Rem) ∷
    row 0x95 (codes "and-int") f.F23x (fam.IntBinary bin.And) ∷
    row 0x96 (codes "or-int") f.F23x (fam.IntBinary bin.Or) ∷
    row 0x97 (codes "xor-int") f.F23x (fam.IntBinary bin.Xor) ∷
    row 0x98 (codes "shl-int") f.F23x (fam.IntBinary bin.Shl) ∷
    row 0x99 (codes "shr-int") f.F23x (fam.IntBinary bin.Shr) ∷
    row 0x9a (codes "ushr-int") f.F23x (fam.IntBinary bin.Ushr) ∷
    row 0x9b (codes "add-long") f.F23x (fam.LongBinary bin.Add) ∷
    row 0x9c (codes "sub-long") f.F23x (fam.LongBinary bin.Sub) ∷
    row 0x9d (codes "mul-long") f.F23x (fam.LongBinary bin.Mul) ∷
    row 0x9e (codes "div-long") f.F23x (fam.LongBinary bin.Div) ∷
    row 0x9f (codes "rem-long") f.F23x (fam.LongBinary bin.Rem) ∷
    row 0xa0 (codes "and-long") f.F23x (fam.LongBinary bin.And) ∷
    row 0xa1 (codes "or-long") f.F23x (fam.LongBinary bin.Or) ∷
    row 0xa2 (codes "xor-long") f.F23x (fam.LongBinary bin.Xor) ∷
    row 0xa3 (codes "shl-long") f.F23x (fam.LongBinary bin.Shl) ∷
    row 0xa4 (codes "shr-long") f.F23x (fam.LongBinary bin.Shr) ∷
    row 0xa5 (codes "ushr-long") f.F23x (fam.LongBinary bin.Ushr) ∷
    row 0xb0 (codes "add-int/2addr") f.F12x (fam.IntTwo bin.Add) ∷
    row 0xb1 (codes "sub-int/2addr") f.F12x (fam.IntTwo bin.Sub) ∷
    row 0xb2 (codes "mul-int/2addr") f.F12x (fam.IntTwo bin.Mul) ∷
    row 0xb3 (codes "div-int/2addr") f.F12x (fam.IntTwo bin.Div) ∷
    row 0xb4 (codes "rem-int/2addr") f.F12x (fam.IntTwo bin.Rem) ∷
    row 0xb5 (codes "and-int/2addr") f.F12x (fam.IntTwo bin.And) ∷
    row 0xb6 (codes "or-int/2addr") f.F12x (fam.IntTwo bin.Or) ∷
    row 0xb7 (codes "xor-int/2addr") f.F12x (fam.IntTwo bin.Xor) ∷
    row 0xb8 (codes "shl-int/2addr") f.F12x (fam.IntTwo bin.Shl) ∷
    row 0xb9 (codes "shr-int/2addr") f.F12x (fam.IntTwo bin.Shr) ∷
    row 0xba (codes "ushr-int/2addr") f.F12x (fam.IntTwo bin.Ushr) ∷
    row 0xbb (codes "add-long/2addr") f.F12x (fam.LongTwo bin.Add) ∷
    row 0xbc (codes "sub-long/2addr") f.F12x (fam.LongTwo bin.Sub) ∷
    row 0xbd (codes "mul-long/2addr") f.F12x (fam.LongTwo bin.Mul) ∷
    row 0xbe (codes "div-long/2addr") f.F12x (fam.LongTwo bin.Div) ∷
    row 0xbf (codes "rem-long/2addr") f.F12x (fam.LongTwo bin.Rem) ∷
    row 0xc0 (codes "and-long/2addr") f.F12x (fam.LongTwo bin.And) ∷
    row 0xc1 (codes "or-long/2addr") f.F12x (fam.LongTwo bin.Or) ∷
    row 0xc2 (codes "xor-long/2addr") f.F12x (fam.LongTwo bin.Xor) ∷
    row 0xc3 (codes "shl-long/2addr") f.F12x (fam.LongTwo bin.Shl) ∷
    row 0xc4 (codes "shr-long/2addr") f.F12x (fam.LongTwo bin.Shr) ∷
    row 0xc5 (codes "ushr-long/2addr") f.F12x (fam.LongTwo bin.Ushr) ∷
    row 0xd0 (codes "add-int/lit16") f.F22s (fam.IntLiteral bin.Add) ∷
    row 0xd1 (codes "rsub-int") f.F22s (fam.IntLiteral bin.Rsub) ∷
    row 0xd2 (codes "mul-int/lit16") f.F22s (fam.IntLiteral bin.Mul) ∷
    row 0xd3 (codes "div-int/lit16") f.F22s (fam.IntLiteral bin.Div) ∷
    row 0xd4 (codes "rem-int/lit16") f.F22s (fam.IntLiteral bin.Rem) ∷
    row 0xd5 (codes "and-int/lit16") f.F22s (fam.IntLiteral bin.And) ∷
    row 0xd6 (codes "or-int/lit16") f.F22s (fam.IntLiteral bin.Or) ∷
    row 0xd7 (codes "xor-int/lit16") f.F22s (fam.IntLiteral bin.Xor) ∷
    row 0xd8 (codes "add-int/lit8") f.F22b (fam.IntLiteral bin.Add) ∷
    row 0xd9 (codes "rsub-int/lit8") f.F22b (fam.IntLiteral bin.Rsub) ∷
    row 0xda (codes "mul-int/lit8") f.F22b (fam.IntLiteral bin.Mul) ∷
    row 0xdb (codes "div-int/lit8") f.F22b (fam.IntLiteral bin.Div) ∷
    row 0xdc (codes "rem-int/lit8") f.F22b (fam.IntLiteral bin.Rem) ∷
    row 0xdd (codes "and-int/lit8") f.F22b (fam.IntLiteral bin.And) ∷
    row 0xde (codes "or-int/lit8") f.F22b (fam.IntLiteral bin.Or) ∷
    row 0xdf (codes "xor-int/lit8") f.F22b (fam.IntLiteral bin.Xor) ∷
    row 0xe0 (codes "shl-int/lit8") f.F22b (fam.IntLiteral bin.Shl) ∷
    row 0xe1 (codes "shr-int/lit8") f.F22b (fam.IntLiteral bin.Shr) ∷
    row 0xe2 (codes "ushr-int/lit8") f.F22b (fam.IntLiteral bin.Ushr) ∷
    []

-- the row of an opcode, none where the opcode is unused or a float's
unfoldable pub entry_at : ℕ → Option Entry
entry_at op = find (λ e. e.opcode == op) table

unfoldable pub format_at : ℕ → Option Format
format_at op = option_map (λ e. e.format) (entry_at op)

unfoldable pub family_at : ℕ → Option Family
family_at op = option_map (λ e. e.family) (entry_at op)

-- the place of an opcode in the table, by the ranges in which the opcodes follow one another
abbrev pub place_at : ℕ → Option ℕ
place_at op =
    if nat_lt op 0x2d then Some op else
    if nat_lt op 0x31 then None else
    if nat_lt op 0x3e then Some (op - 0x04) else
    if nat_lt op 0x44 then None else
    if nat_lt op 0x73 then Some (op - 0x0a) else
    if nat_lt op 0x74 then None else
    if nat_lt op 0x79 then Some (op - 0x0b) else
    if nat_lt op 0x7b then None else
    if nat_lt op 0x7f then Some (op - 0x0d) else
    if nat_lt op 0x81 then None else
    if nat_lt op 0x82 then Some (op - 0x0f) else
    if nat_lt op 0x84 then None else
    if nat_lt op 0x85 then Some (op - 0x11) else
    if nat_lt op 0x8d then None else
    if nat_lt op 0xa6 then Some (op - 0x19) else
    if nat_lt op 0xb0 then None else
    if nat_lt op 0xc6 then Some (op - 0x23) else
    if nat_lt op 0xd0 then None else
    if nat_lt op 0xe3 then Some (op - 0x2d) else
    None

-- the first opcode with a name, in a list of names with their opcodes and in the table
abbrev pub opcode_in : List (List ℕ × ℕ) → List ℕ → Option ℕ
opcode_in [] name = None
opcode_in (x ∷ xs) name = if bytes_eq x.0 name then Some x.1 else opcode_in xs name

unfoldable pub opcode_named : List ℕ → Option ℕ
opcode_named name = opcode_in (map (λ e. (e.name, e.opcode)) table) name

-- what a local instruction is: it can't throw, and is no return and no instance-of
pub record IsPlain (e : Entry) : Type 0 where
  pub no_throw : can_throw e.family ≡ false
  pub no_return : is_return e.family ≡ false
  pub no_instance_of : is_instance_of e.family ≡ false

-- the opcodes of instructions over floats and doubles
unfoldable pub is_float : ℕ → Bool
is_float op =
    is_in_range 0x2d 0x30 op || is_in_range 0x7f 0x80 op || is_in_range 0x82 0x83 op || is_in_range 0x85 0x8c op ||
    is_in_range 0xa6 0xaf op || is_in_range 0xc6 0xcf op
