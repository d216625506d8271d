-- What the opcodes of one family differ in (AOSP, "Dalvik bytecode format").
use Rattle.std.specs.Prelude.{ℕ, Bool, true, false, nat_eq, if◌then◌else◌}

-- of move, move-result and return: plain, -wide, -object
pub data Width : Type 0 where
  Narrow : Width
  Wide : Width
  Reference : Width

-- of if-eq and its kin
pub data Test : Type 0 where
  Eq : Test
  Ne : Test
  Lt : Test
  Ge : Test
  Gt : Test
  Le : Test

-- of array and field operations: plain, -wide, -object, -boolean, -byte, -char, -short
pub data Suffix : Type 0 where
  Int : Suffix
  Long : Suffix
  Object : Suffix
  Boolean : Suffix
  Byte : Suffix
  Char : Suffix
  Short : Suffix

-- of invoke
pub data Call : Type 0 where
  Virtual : Call
  Super : Call
  Direct : Call
  Static : Call
  Interface : Call

-- of operations on two numbers; rsub is the second less the first
pub data Bin : Type 0 where
  Add : Bin
  Sub : Bin
  Rsub : Bin
  Mul : Bin
  Div : Bin
  Rem : Bin
  And : Bin
  Or : Bin
  Xor : Bin
  Shl : Bin
  Shr : Bin
  Ushr : Bin

-- of operations on one number
pub data Unary : Type 0 where
  Neg : Unary
  Not : Unary
  ToByte : Unary
  ToChar : Unary
  ToShort : Unary

-- each in the order of its opcodes
abbrev pub width_at : ℕ → Width
width_at n =
    if nat_eq n 0 then Narrow else
    if nat_eq n 1 then Wide else
    Reference

abbrev pub test_at : ℕ → Test
test_at n =
    if nat_eq n 0 then Eq else
    if nat_eq n 1 then Ne else
    if nat_eq n 2 then Lt else
    if nat_eq n 3 then Ge else
    if nat_eq n 4 then Gt else
    Le

abbrev pub suffix_at : ℕ → Suffix
suffix_at n =
    if nat_eq n 0 then Int else
    if nat_eq n 1 then Long else
    if nat_eq n 2 then Object else
    if nat_eq n 3 then Boolean else
    if nat_eq n 4 then Byte else
    if nat_eq n 5 then Char else
    Short

abbrev pub call_at : ℕ → Call
call_at n =
    if nat_eq n 0 then Virtual else
    if nat_eq n 1 then Super else
    if nat_eq n 2 then Direct else
    if nat_eq n 3 then Static else
    Interface

-- of two registers
abbrev pub binary_at : ℕ → Bin
binary_at n =
    if nat_eq n 0 then Add else
    if nat_eq n 1 then Sub else
    if nat_eq n 2 then Mul else
    if nat_eq n 3 then Div else
    if nat_eq n 4 then Rem else
    if nat_eq n 5 then And else
    if nat_eq n 6 then Or else
    if nat_eq n 7 then Xor else
    if nat_eq n 8 then Shl else
    if nat_eq n 9 then Shr else
    Ushr

-- of a register and a literal
abbrev pub literal_at : ℕ → Bin
literal_at n = if nat_eq n 1 then Rsub else binary_at n

abbrev pub is_division : Bin → Bool
is_division Div = true
is_division Rem = true
is_division o = false

abbrev pub is_shift : Bin → Bool
is_shift Shl = true
is_shift Shr = true
is_shift Ushr = true
is_shift o = false

-- a test that references have too
abbrev pub is_equality : Test → Bool
is_equality Eq = true
is_equality Ne = true
is_equality t = false
