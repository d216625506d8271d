-- The opcodes of local instructions (AOSP, "Dalvik bytecode format").
use Rattle.std.specs.Prelude.{ℕ, Bool, ◌&&◌, ◌||◌, nat_eq, nat_le}

-- from one number to another, both among them
abbrev pub is_within : ℕ → ℕ → ℕ → Bool
is_within low high n = nat_le low n && nat_le n high

-- nop, moves, constants, goto, switches, comparisons, branches on a test
abbrev pub is_plain : ℕ → Bool
is_plain n = is_within 0x00 0x0d n || is_within 0x12 0x19 n || is_within 0x28 0x2c n || is_within 0x31 0x3d n

-- operations on one number
abbrev pub is_unary : ℕ → Bool
is_unary n = is_within 0x7b 0x7e n || nat_eq n 0x81 || nat_eq n 0x84 || is_within 0x8d 0x8f n

-- operations on two numbers but for division and remainder: in three registers, in two, and with a literal
abbrev pub is_binary : ℕ → Bool
is_binary n =
    is_within 0x90 0x92 n || is_within 0x95 0x9d n || is_within 0xa0 0xa5 n || is_within 0xb0 0xb2 n || is_within 0xb5 0xbd n ||
    is_within 0xc0 0xc5 n || is_within 0xd0 0xd2 n || is_within 0xd5 0xda n || is_within 0xdd 0xe2 n

abbrev pub is_local_opcode : ℕ → Bool
is_local_opcode n = is_plain n || is_unary n || is_binary n
