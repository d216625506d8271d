-- The formats of instructions, and the format of each opcode (AOSP, "Dalvik executable instruction formats" and
-- "Dalvik bytecode format").
use Rattle.std.specs.Prelude.{ℕ, Bool, true, false, ◌&&◌, ◌||◌, not, nat_lt, Option, Some, None, is_some, is_none, unwrap_or, if◌then◌else◌}
use Rattle.std.specs.Int.{is_in_range}

-- F35c is the format 35c: three units, five registers at most, a constant pool index
pub data Format : Type 0 where
  F10x : Format
  F12x : Format
  F11n : Format
  F11x : Format
  F10t : Format
  F20t : Format
  F22x : Format
  F21t : Format
  F21s : Format
  F21h : Format
  F21c : Format
  F23x : Format
  F22b : Format
  F22t : Format
  F22s : Format
  F22c : Format
  F30t : Format
  F32x : Format
  F31i : Format
  F31t : Format
  F31c : Format
  F35c : Format
  F3rc : Format
  F51l : Format

-- how many units an instruction of a format has
abbrev pub size_in : Format → ℕ
size_in F10x = 1
size_in F12x = 1
size_in F11n = 1
size_in F11x = 1
size_in F10t = 1
size_in F20t = 2
size_in F22x = 2
size_in F21t = 2
size_in F21s = 2
size_in F21h = 2
size_in F21c = 2
size_in F23x = 2
size_in F22b = 2
size_in F22t = 2
size_in F22s = 2
size_in F22c = 2
size_in F30t = 3
size_in F32x = 3
size_in F31i = 3
size_in F31t = 3
size_in F31c = 3
size_in F35c = 3
size_in F3rc = 3
size_in F51l = 5

-- the format of an opcode, none where the opcode is unused or a float's
unfoldable pub format_at : ℕ → Option Format
format_at op =
    if nat_lt op 0x01 then Some F10x else
    if nat_lt op 0x02 then Some F12x else
    if nat_lt op 0x03 then Some F22x else
    if nat_lt op 0x04 then Some F32x else
    if nat_lt op 0x05 then Some F12x else
    if nat_lt op 0x06 then Some F22x else
    if nat_lt op 0x07 then Some F32x else
    if nat_lt op 0x08 then Some F12x else
    if nat_lt op 0x09 then Some F22x else
    if nat_lt op 0x0a then Some F32x else
    if nat_lt op 0x0e then Some F11x else
    if nat_lt op 0x0f then Some F10x else
    if nat_lt op 0x12 then Some F11x else
    if nat_lt op 0x13 then Some F11n else
    if nat_lt op 0x14 then Some F21s else
    if nat_lt op 0x15 then Some F31i else
    if nat_lt op 0x16 then Some F21h else
    if nat_lt op 0x17 then Some F21s else
    if nat_lt op 0x18 then Some F31i else
    if nat_lt op 0x19 then Some F51l else
    if nat_lt op 0x1a then Some F21h else
    if nat_lt op 0x1b then Some F21c else
    if nat_lt op 0x1c then Some F31c else
    if nat_lt op 0x1d then Some F21c else
    if nat_lt op 0x1f then Some F11x else
    if nat_lt op 0x20 then Some F21c else
    if nat_lt op 0x21 then Some F22c else
    if nat_lt op 0x22 then Some F12x else
    if nat_lt op 0x23 then Some F21c else
    if nat_lt op 0x24 then Some F22c else
    if nat_lt op 0x25 then Some F35c else
    if nat_lt op 0x26 then Some F3rc else
    if nat_lt op 0x27 then Some F31t else
    if nat_lt op 0x28 then Some F11x else
    if nat_lt op 0x29 then Some F10t else
    if nat_lt op 0x2a then Some F20t else
    if nat_lt op 0x2b then Some F30t else
    if nat_lt op 0x2d then Some F31t else
    if nat_lt op 0x31 then None else
    if nat_lt op 0x32 then Some F23x else
    if nat_lt op 0x38 then Some F22t else
    if nat_lt op 0x3e then Some F21t else
    if nat_lt op 0x44 then None else
    if nat_lt op 0x52 then Some F23x else
    if nat_lt op 0x60 then Some F22c else
    if nat_lt op 0x6e then Some F21c else
    if nat_lt op 0x73 then Some F35c else
    if nat_lt op 0x74 then None else
    if nat_lt op 0x79 then Some F3rc else
    if nat_lt op 0x7b then None else
    if nat_lt op 0x7f then Some F12x else
    if nat_lt op 0x81 then None else
    if nat_lt op 0x82 then Some F12x else
    if nat_lt op 0x84 then None else
    if nat_lt op 0x85 then Some F12x else
    if nat_lt op 0x8d then None else
    if nat_lt op 0x90 then Some F12x else
    if nat_lt op 0xa6 then Some F23x else
    if nat_lt op 0xb0 then None else
    if nat_lt op 0xc6 then Some F12x else
    if nat_lt op 0xd0 then None else
    if nat_lt op 0xd8 then Some F22s else
    if nat_lt op 0xe3 then Some F22b else
    None

-- how many units an instruction with an opcode has, 0 where the opcode has no format
abbrev pub size_by : Option Format → ℕ
size_by None = 0
size_by (Some f) = size_in f

abbrev pub size_at : ℕ → ℕ
size_at op = size_by (format_at op)

-- the opcodes of instructions over floats and doubles
unfoldable pub is_float : ℕ → Bool
is_float op =
    is_in_range 0x2d 0x30 op || is_in_range 0x7f 0x80 op || is_in_range 0x82 0x83 op || is_in_range 0x85 0x8c op ||
    is_in_range 0xa6 0xaf op || is_in_range 0xc6 0xcf op

-- neither an opcode of the table of formats nor a float's
unfoldable pub is_unused : ℕ → Bool
is_unused op = is_none (format_at op) && not (is_float op)

-- how many bits the offset of a branch, a switch or a fill-array-data has, by its format; none where the format has none
abbrev pub offset_in : Option Format → Option ℕ
offset_in (Some F10t) = Some 8
offset_in (Some F20t) = Some 16
offset_in (Some F21t) = Some 16
offset_in (Some F22t) = Some 16
offset_in (Some F30t) = Some 32
offset_in (Some F31t) = Some 32
offset_in format = None

-- whether a format has an offset
abbrev pub has_offset : Option Format → Bool
has_offset format = is_some (offset_in format)

-- how many bits the offset of an opcode has; 32 where it has none
abbrev pub offset_bits : ℕ → ℕ
offset_bits op = unwrap_or (offset_in (format_at op)) 32

-- whether a format has an index into a pool
abbrev pub has_index : Option Format → Bool
has_index (Some F21c) = true
has_index (Some F22c) = true
has_index (Some F31c) = true
has_index (Some F35c) = true
has_index (Some F3rc) = true
has_index format = false
