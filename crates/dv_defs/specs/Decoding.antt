-- The instruction that stands in 16-bit units: the inverse of its spelling (AOSP, "Dalvik executable instruction
-- formats"). In a comment the letters of a unit are nibbles, the highest first, and `op` is the opcode.
use Rattle.std.specs.Prelude.{ℕ, zero, suc, ◌+◌, ◌*◌, ◌/◌, ◌%◌, ◌^◌, Bool, true, false, ◌&&◌, ◌||◌, List, [], ◌∷◌, take, drop, ℤ, Option, Some, None, nat_eq, nat_lt, nat_le}
use Rattle.std.specs.List.{list_all}
use Rattle.dv_defs.specs.declared.code.Insn.{Insn}
use Rattle.dv_defs.specs.Formats.{Format, F10x, F12x, F11n, F11x, F10t, F20t, F22x, F21t, F21s, F21h, F21c, F23x, F22b, F22t, F22s, F22c, F30t, F32x, F31i, F31t, F31c, F35c, F3rc, F51l, format_at}
use Rattle.dv_defs.specs.Numbers.{signed_at}
use Rattle.dv_defs.specs.Spelling.{few, neighbours, plain, with_literal, with_offset, with_index}

-- an instruction with the number of its units
pub record Sized : Type 0 where
  pub insn : Insn
  pub size : ℕ

abbrev pub sized : ℕ → Insn → Option Sized
sized size i = Some (record { insn = i; size = size })

-- a part that has to be 0
abbrev pub where_zero : ℕ → Option Sized → Option Sized
where_zero zero x = x
where_zero (suc n) x = None

abbrev pub where_valid : Bool → Option Sized → Option Sized
where_valid true x = x
where_valid false x = None

-- the nibble at a place from the lowest on
abbrev pub nibble : ℕ → ℕ → ℕ
nibble n u = u / 16 ^ n % 16

-- const/high16 shifts by 16, const-wide/high16 by 48
abbrev pub high_literal : ℕ → ℕ → ℤ
high_literal op v = elim (nat_eq op 0x15) [ true ↦ signed_at 32 (v * 2 ^ 16) | false ↦ signed_at 64 (v * 2 ^ 48) ]

-- FEDC with G
abbrev pub five : ℕ → ℕ → List ℕ
five g w = nibble 0 w ∷ nibble 1 w ∷ nibble 2 w ∷ nibble 3 w ∷ g ∷ []

abbrev pub is_zero : ℕ → Bool
is_zero n = nat_eq n 0

-- the first A, at most 5, of vC, vD, vE, vF, vG; the other nibbles are 0
abbrev pub short_call : ℕ → ℕ → ℕ → ℕ → ℕ → Option Sized
short_call op a g index w =
    where_valid (nat_le a 5 && list_all is_zero (drop a (five g w)))
    (sized 3 (with_index op (few (take a (five g w))) index))

-- AA words from vCCCC; with AA 0, CCCC is 0
abbrev pub range_call : ℕ → ℕ → ℕ → ℕ → Option Sized
range_call op a index first = where_valid (nat_lt 0 a || nat_eq first 0) (sized 3 (with_index op (neighbours first a) index))

-- by format: the opcode, the high byte of the first unit, and the units after it
abbrev pub read_in : Format → ℕ → ℕ → List ℕ → Option Sized
read_in F10x op a us = where_zero a (sized 1 (plain op (few [])))
read_in F12x op a us = sized 1 (plain op (few (a % 16 ∷ a / 16 ∷ [])))
read_in F11n op a us = sized 1 (with_literal op (few (a % 16 ∷ [])) (signed_at 4 (a / 16)))
read_in F11x op a us = sized 1 (plain op (few (a ∷ [])))
read_in F10t op a us = sized 1 (with_offset op (few []) (signed_at 8 a))
read_in F20t op a (v ∷ us) = where_zero a (sized 2 (with_offset op (few []) (signed_at 16 v)))
read_in F22x op a (v ∷ us) = sized 2 (plain op (few (a ∷ v ∷ [])))
read_in F21t op a (v ∷ us) = sized 2 (with_offset op (few (a ∷ [])) (signed_at 16 v))
read_in F21s op a (v ∷ us) = sized 2 (with_literal op (few (a ∷ [])) (signed_at 16 v))
read_in F21h op a (v ∷ us) = sized 2 (with_literal op (few (a ∷ [])) (high_literal op v))
read_in F21c op a (v ∷ us) = sized 2 (with_index op (few (a ∷ [])) v)
read_in F23x op a (v ∷ us) = sized 2 (plain op (few (a ∷ v % 256 ∷ v / 256 ∷ [])))
read_in F22b op a (v ∷ us) = sized 2 (with_literal op (few (a ∷ v % 256 ∷ [])) (signed_at 8 (v / 256)))
read_in F22t op a (v ∷ us) = sized 2 (with_offset op (few (a % 16 ∷ a / 16 ∷ [])) (signed_at 16 v))
read_in F22s op a (v ∷ us) = sized 2 (with_literal op (few (a % 16 ∷ a / 16 ∷ [])) (signed_at 16 v))
read_in F22c op a (v ∷ us) = sized 2 (with_index op (few (a % 16 ∷ a / 16 ∷ [])) v)
read_in F30t op a (v ∷ w ∷ us) = where_zero a (sized 3 (with_offset op (few []) (signed_at 32 (v + w * 2 ^ 16))))
read_in F32x op a (v ∷ w ∷ us) = where_zero a (sized 3 (plain op (few (v ∷ w ∷ []))))
read_in F31i op a (v ∷ w ∷ us) = sized 3 (with_literal op (few (a ∷ [])) (signed_at 32 (v + w * 2 ^ 16)))
read_in F31t op a (v ∷ w ∷ us) = sized 3 (with_offset op (few (a ∷ [])) (signed_at 32 (v + w * 2 ^ 16)))
read_in F31c op a (v ∷ w ∷ us) = sized 3 (with_index op (few (a ∷ [])) (v + w * 2 ^ 16))
read_in F35c op a (v ∷ w ∷ us) = short_call op (a / 16) (a % 16) v w
read_in F3rc op a (v ∷ w ∷ us) = range_call op a v w
read_in F51l op a (v ∷ w ∷ x ∷ y ∷ us) = sized 5 (with_literal op (few (a ∷ [])) (signed_at 64 (v + w * 2 ^ 16 + x * 2 ^ 32 + y * 2 ^ 48)))
read_in f op a us = None

abbrev pub read_by : Option Format → ℕ → ℕ → List ℕ → Option Sized
read_by None op a us = None
read_by (Some f) op a us = read_in f op a us

-- the instruction that is spelled from here on
abbrev pub insn_here : List ℕ → Option Sized
insn_here [] = None
insn_here (u ∷ us) = read_by (format_at (u % 256)) (u % 256) (u / 256) us
