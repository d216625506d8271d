-- The one spelling of each instruction as 16-bit units (AOSP, "Dalvik executable instruction formats").
-- In a comment the letters of a unit are nibbles, the highest first, and `op` is the opcode.
use Rattle.std.specs.Prelude.{ℕ, ◌+◌, ◌-◌, ◌*◌, ◌/◌, ◌%◌, ◌^◌, suc, ℤ, pos, negsuc, Bool, true, false, ◌&&◌, ◌||◌, nat_eq, nat_lt, nat_le, List, [], ◌∷◌, ◌++◌, length, take, drop, slice_index, Option, Some, None, IsTrue, if◌then◌else◌}
use Rattle.std.specs.Bool.{beq}
use Rattle.std.specs.List.{list_all}
use Rattle.std.specs.Ordering.{int_eq}
use Rattle.std.specs.Str.{bytes_eq}
use Rattle.dv_defs.specs.declared.code.Insn.{Insn}
use Rattle.dv_defs.specs.declared.code.Regs.{Regs}
use Rattle.dv_defs.specs.Formats.{Format, F10x, F12x, F11n, F11x, F10t, F20t, F22x, F21t, F21s, F21h, F21c, F23x, F22b, F22t, F22s, F22c, F30t, F32x, F31i, F31t, F31c, F35c, F3rc, F51l, format_at}

-- two nibbles as a byte, and two bytes as a unit
abbrev pub byte : ℕ → ℕ → ℕ
byte high low = high * 16 + low

abbrev pub unit : ℕ → ℕ → ℕ
unit high low = high * 256 + low

-- a number of 32 or 64 bits in units, the lowest first
abbrev pub two_units : ℕ → List ℕ
two_units n = n % 2 ^ 16 ∷ n / 2 ^ 16 ∷ []

abbrev pub four_units : ℕ → List ℕ
four_units n = n % 2 ^ 16 ∷ n / 2 ^ 16 % 2 ^ 16 ∷ n / 2 ^ 32 % 2 ^ 16 ∷ n / 2 ^ 48 ∷ []

-- a number that a field of so many bits holds
abbrev pub fits_in : ℕ → ℕ → Bool
fits_in bits n = nat_lt n (2 ^ bits)

abbrev pub all_fit : ℕ → List ℕ → Bool
all_fit bits ns = list_all (λ n. fits_in bits n) ns

-- units are numbers of 16 bits
abbrev pub AreUnits : List ℕ → Type 0
AreUnits us = IsTrue (all_fit 16 us)

abbrev pub all_zero : List ℕ → Bool
all_zero ns = list_all (λ n. nat_eq n 0) ns

abbrev pub fits_signed : ℕ → ℤ → Bool
fits_signed bits (pos n) = fits_in (bits - 1) n
fits_signed bits (negsuc n) = fits_in (bits - 1) n

-- a signed number as its two's complement of so many bits
abbrev pub complement : ℕ → ℤ → ℕ
complement bits (pos n) = n
complement bits (negsuc n) = 2 ^ bits - suc n

-- these registers, and 0 in the other places
abbrev pub few : List ℕ → Regs
few rs = record { count = length rs; first = take 5 (rs ++ 0 ∷ 0 ∷ 0 ∷ 0 ∷ 0 ∷ []); range = false }

-- so many neighbouring registers
abbrev pub neighbours : ℕ → ℕ → Regs
neighbours first count = record { count = count; first = first ∷ 0 ∷ 0 ∷ 0 ∷ 0 ∷ []; range = true }

-- an instruction with these operands, and 0 in each other part
abbrev pub plain : ℕ → Regs → Insn
plain op regs = record { op = op; regs = regs; lit = pos 0; off = pos 0; index = 0 }

abbrev pub with_literal : ℕ → Regs → ℤ → Insn
with_literal op regs lit = record { op = op; regs = regs; lit = lit; off = pos 0; index = 0 }

abbrev pub with_offset : ℕ → Regs → ℤ → Insn
with_offset op regs off = record { op = op; regs = regs; lit = pos 0; off = off; index = 0 }

abbrev pub with_index : ℕ → Regs → ℕ → Insn
with_index op regs index = record { op = op; regs = regs; lit = pos 0; off = pos 0; index = index }

abbrev pub regs_eq : Regs → Regs → Bool
regs_eq r s = nat_eq r.count s.count && (bytes_eq r.first s.first && beq r.range s.range)

-- whether two instructions are one, part by part
unfoldable pub insn_eq : Insn → Insn → Bool
insn_eq i j =
    nat_eq i.op j.op &&
    (regs_eq i.regs j.regs && (int_eq i.lit j.lit && (int_eq i.off j.off && nat_eq i.index j.index)))

-- the units, where the instruction has the form of its format, and opcode and operands fit their fields
abbrev pub spelled : Insn → Insn → Bool → List ℕ → Option (List ℕ)
spelled i form fitting us = if insn_eq i form && (fits_in 8 i.op && fitting) then Some us else None

-- the registers in the order of the operands, from 0 on
abbrev pub register : Insn → ℕ → ℕ
register i n = slice_index i.regs.first n

-- 00op
abbrev pub spelling_10x : Insn → Option (List ℕ)
spelling_10x i =
    spelled i
    (plain i.op (few []))
    true
    (unit 0 i.op ∷ [])

-- BAop: vA, vB
abbrev pub spelling_12x : Insn → Option (List ℕ)
spelling_12x i =
    let a = register i 0 in
    let b = register i 1 in
    spelled i
    (plain i.op (few (a ∷ b ∷ [])))
    (fits_in 4 a && fits_in 4 b)
    (unit (byte b a) i.op ∷ [])

-- BAop: vA, literal B
abbrev pub spelling_11n : Insn → Option (List ℕ)
spelling_11n i =
    let a = register i 0 in
    spelled i
    (with_literal i.op (few (a ∷ [])) i.lit)
    (fits_in 4 a && fits_signed 4 i.lit)
    (unit (byte (complement 4 i.lit) a) i.op ∷ [])

-- AAop: vAA
abbrev pub spelling_11x : Insn → Option (List ℕ)
spelling_11x i =
    let a = register i 0 in
    spelled i
    (plain i.op (few (a ∷ [])))
    (fits_in 8 a)
    (unit a i.op ∷ [])

-- AAop: offset AA
abbrev pub spelling_10t : Insn → Option (List ℕ)
spelling_10t i =
    spelled i
    (with_offset i.op (few []) i.off)
    (fits_signed 8 i.off)
    (unit (complement 8 i.off) i.op ∷ [])

-- 00op AAAA: offset AAAA
abbrev pub spelling_20t : Insn → Option (List ℕ)
spelling_20t i =
    spelled i
    (with_offset i.op (few []) i.off)
    (fits_signed 16 i.off)
    (unit 0 i.op ∷ complement 16 i.off ∷ [])

-- AAop BBBB: vAA, vBBBB
abbrev pub spelling_22x : Insn → Option (List ℕ)
spelling_22x i =
    let a = register i 0 in
    let b = register i 1 in
    spelled i
    (plain i.op (few (a ∷ b ∷ [])))
    (fits_in 8 a && fits_in 16 b)
    (unit a i.op ∷ b ∷ [])

-- AAop BBBB: vAA, offset BBBB
abbrev pub spelling_21t : Insn → Option (List ℕ)
spelling_21t i =
    let a = register i 0 in
    spelled i
    (with_offset i.op (few (a ∷ [])) i.off)
    (fits_in 8 a && fits_signed 16 i.off)
    (unit a i.op ∷ complement 16 i.off ∷ [])

-- AAop BBBB: vAA, literal BBBB
abbrev pub spelling_21s : Insn → Option (List ℕ)
spelling_21s i =
    let a = register i 0 in
    spelled i
    (with_literal i.op (few (a ∷ [])) i.lit)
    (fits_in 8 a && fits_signed 16 i.lit)
    (unit a i.op ∷ complement 16 i.lit ∷ [])

-- AAop BBBB: vAA, literal BBBB shifted left
abbrev pub spelling_shifted : ℕ → Insn → Option (List ℕ)
spelling_shifted shift i =
    let a = register i 0 in
    let literal = complement (shift + 16) i.lit in
    spelled i
    (with_literal i.op (few (a ∷ [])) i.lit)
    (fits_in 8 a && fits_signed (shift + 16) i.lit && nat_eq (literal % 2 ^ shift) 0)
    (unit a i.op ∷ literal / 2 ^ shift ∷ [])

-- const/high16 shifts by 16, const-wide/high16 by 48
abbrev pub spelling_21h : Insn → Option (List ℕ)
spelling_21h i = if nat_eq i.op 0x15 then spelling_shifted 16 i else spelling_shifted 48 i

-- AAop BBBB: vAA, index BBBB
abbrev pub spelling_21c : Insn → Option (List ℕ)
spelling_21c i =
    let a = register i 0 in
    spelled i
    (with_index i.op (few (a ∷ [])) i.index)
    (fits_in 8 a && fits_in 16 i.index)
    (unit a i.op ∷ i.index ∷ [])

-- AAop CCBB: vAA, vBB, vCC
abbrev pub spelling_23x : Insn → Option (List ℕ)
spelling_23x i =
    let a = register i 0 in
    let b = register i 1 in
    let c = register i 2 in
    spelled i
    (plain i.op (few (a ∷ b ∷ c ∷ [])))
    (fits_in 8 a && fits_in 8 b && fits_in 8 c)
    (unit a i.op ∷ unit c b ∷ [])

-- AAop CCBB: vAA, vBB, literal CC
abbrev pub spelling_22b : Insn → Option (List ℕ)
spelling_22b i =
    let a = register i 0 in
    let b = register i 1 in
    spelled i
    (with_literal i.op (few (a ∷ b ∷ [])) i.lit)
    (fits_in 8 a && fits_in 8 b && fits_signed 8 i.lit)
    (unit a i.op ∷ unit (complement 8 i.lit) b ∷ [])

-- BAop CCCC: vA, vB, offset CCCC
abbrev pub spelling_22t : Insn → Option (List ℕ)
spelling_22t i =
    let a = register i 0 in
    let b = register i 1 in
    spelled i
    (with_offset i.op (few (a ∷ b ∷ [])) i.off)
    (fits_in 4 a && fits_in 4 b && fits_signed 16 i.off)
    (unit (byte b a) i.op ∷ complement 16 i.off ∷ [])

-- BAop CCCC: vA, vB, literal CCCC
abbrev pub spelling_22s : Insn → Option (List ℕ)
spelling_22s i =
    let a = register i 0 in
    let b = register i 1 in
    spelled i
    (with_literal i.op (few (a ∷ b ∷ [])) i.lit)
    (fits_in 4 a && fits_in 4 b && fits_signed 16 i.lit)
    (unit (byte b a) i.op ∷ complement 16 i.lit ∷ [])

-- BAop CCCC: vA, vB, index CCCC
abbrev pub spelling_22c : Insn → Option (List ℕ)
spelling_22c i =
    let a = register i 0 in
    let b = register i 1 in
    spelled i
    (with_index i.op (few (a ∷ b ∷ [])) i.index)
    (fits_in 4 a && fits_in 4 b && fits_in 16 i.index)
    (unit (byte b a) i.op ∷ i.index ∷ [])

-- 00op low high: offset of 32 bits
abbrev pub spelling_30t : Insn → Option (List ℕ)
spelling_30t i =
    spelled i
    (with_offset i.op (few []) i.off)
    (fits_signed 32 i.off)
    (unit 0 i.op ∷ two_units (complement 32 i.off))

-- 00op AAAA BBBB: vAAAA, vBBBB
abbrev pub spelling_32x : Insn → Option (List ℕ)
spelling_32x i =
    let a = register i 0 in
    let b = register i 1 in
    spelled i
    (plain i.op (few (a ∷ b ∷ [])))
    (fits_in 16 a && fits_in 16 b)
    (unit 0 i.op ∷ a ∷ b ∷ [])

-- AAop low high: vAA, literal of 32 bits
abbrev pub spelling_31i : Insn → Option (List ℕ)
spelling_31i i =
    let a = register i 0 in
    spelled i
    (with_literal i.op (few (a ∷ [])) i.lit)
    (fits_in 8 a && fits_signed 32 i.lit)
    (unit a i.op ∷ two_units (complement 32 i.lit))

-- AAop low high: vAA, offset of 32 bits
abbrev pub spelling_31t : Insn → Option (List ℕ)
spelling_31t i =
    let a = register i 0 in
    spelled i
    (with_offset i.op (few (a ∷ [])) i.off)
    (fits_in 8 a && fits_signed 32 i.off)
    (unit a i.op ∷ two_units (complement 32 i.off))

-- AAop low high: vAA, index of 32 bits
abbrev pub spelling_31c : Insn → Option (List ℕ)
spelling_31c i =
    let a = register i 0 in
    spelled i
    (with_index i.op (few (a ∷ [])) i.index)
    (fits_in 8 a && fits_in 32 i.index)
    (unit a i.op ∷ two_units i.index)

-- AGop BBBB FEDC: the first A, at most 5, of vC, vD, vE, vF, vG, and index BBBB; the other nibbles are 0
abbrev pub spelling_35c : Insn → Option (List ℕ)
spelling_35c i =
    let a = i.regs.count in
    let c = register i 0 in
    let d = register i 1 in
    let e = register i 2 in
    let f = register i 3 in
    let g = register i 4 in
    let words = c ∷ d ∷ e ∷ f ∷ g ∷ [] in
    let unused = drop a words in
    spelled i
    (with_index i.op (record { count = a; first = words; range = false }) i.index)
    (nat_le a 5 && all_zero unused && all_fit 4 words && fits_in 16 i.index)
    (unit (byte a g) i.op ∷ i.index ∷ unit (byte f e) (byte d c) ∷ [])

-- AAop BBBB CCCC: AA words from vCCCC, and index BBBB; with AA 0, CCCC is 0
abbrev pub spelling_3rc : Insn → Option (List ℕ)
spelling_3rc i =
    let a = i.regs.count in
    let c = register i 0 in
    spelled i
    (with_index i.op (neighbours c a) i.index)
    (fits_in 8 a && fits_in 16 c && (nat_lt 0 a || nat_eq c 0) && fits_in 16 i.index)
    (unit a i.op ∷ i.index ∷ c ∷ [])

-- AAop and four units: vAA, literal of 64 bits
abbrev pub spelling_51l : Insn → Option (List ℕ)
spelling_51l i =
    let a = register i 0 in
    spelled i
    (with_literal i.op (few (a ∷ [])) i.lit)
    (fits_in 8 a && fits_signed 64 i.lit)
    (unit a i.op ∷ four_units (complement 64 i.lit))

abbrev pub spelling_in : Format → Insn → Option (List ℕ)
spelling_in F10x i = spelling_10x i
spelling_in F12x i = spelling_12x i
spelling_in F11n i = spelling_11n i
spelling_in F11x i = spelling_11x i
spelling_in F10t i = spelling_10t i
spelling_in F20t i = spelling_20t i
spelling_in F22x i = spelling_22x i
spelling_in F21t i = spelling_21t i
spelling_in F21s i = spelling_21s i
spelling_in F21h i = spelling_21h i
spelling_in F21c i = spelling_21c i
spelling_in F23x i = spelling_23x i
spelling_in F22b i = spelling_22b i
spelling_in F22t i = spelling_22t i
spelling_in F22s i = spelling_22s i
spelling_in F22c i = spelling_22c i
spelling_in F30t i = spelling_30t i
spelling_in F32x i = spelling_32x i
spelling_in F31i i = spelling_31i i
spelling_in F31t i = spelling_31t i
spelling_in F31c i = spelling_31c i
spelling_in F35c i = spelling_35c i
spelling_in F3rc i = spelling_3rc i
spelling_in F51l i = spelling_51l i

abbrev pub spelling_by : Option Format → Insn → Option (List ℕ)
spelling_by None i = None
spelling_by (Some f) i = spelling_in f i

-- the units of an instruction; none where its opcode has no format, an operand doesn't fit its field, or it isn't in
-- the form of its format: with as many registers as the format has, a range in 3rc alone, and 0 in each part that the
-- format lacks
abbrev pub spelling : Insn → Option (List ℕ)
spelling i = spelling_by (format_at i.op) i
