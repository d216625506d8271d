-- Arithmetic of 32 and 64 bits (JLS 15.15 to 15.22, AOSP "Dalvik bytecode format").
use Rattle.std.specs.Prelude.{ℕ, zero, suc, ◌+◌, ◌-◌, ◌*◌, ◌/◌, ◌%◌, ◌^◌, Bool, true, false, not, ℤ, pos, negsuc, ◌+ℤ◌, int_lt, int_le, int_rem, nat_lt, List, [], ◌∷◌, take, drop}
use Rattle.std.specs.Ordering.{int_eq}
use Rattle.std.specs.Int.{Width, w8, w16, w32, w64, cast_signed, cast_unsigned, int_wrapping_add, int_wrapping_sub, int_wrapping_mul, int_wrapping_div, int_wrapping_neg, int_bit_and, int_bit_or, int_bit_xor, int_bit_not, int_shl, int_shr}
use Rattle.dv_defs.specs.Parts.{Bin, Unary, Test}

-- the two's complement of a number, and the number of such bits
abbrev pub bits32 : ℤ → ℕ
bits32 x = cast_unsigned w32 x

abbrev pub from32 : ℕ → ℤ
from32 n = cast_signed w32 (n % 2 ^ 32)

abbrev pub bits64 : ℤ → ℕ
bits64 x = cast_unsigned w64 x

abbrev pub lo_of : ℤ → ℕ
lo_of x = bits64 x % 2 ^ 32

abbrev pub hi_of : ℤ → ℕ
hi_of x = bits64 x / 2 ^ 32

abbrev pub long_of : ℕ → ℕ → ℤ
long_of lo hi = cast_signed w64 (lo + hi * 2 ^ 32)

-- an operation at a width, which wraps; a division rounds toward zero, and its second number is not 0;
-- the second of a shift is its distance, of which the low five or six bits count; ushr fills with zeros
abbrev pub operate : Width → ℕ → Bin → ℤ → ℤ → ℤ
operate w size Bin.Add x y = int_wrapping_add w x y
operate w size Bin.Sub x y = int_wrapping_sub w x y
operate w size Bin.Rsub x y = int_wrapping_sub w y x
operate w size Bin.Mul x y = int_wrapping_mul w x y
operate w size Bin.Div x y = int_wrapping_div w x y
operate w size Bin.Rem x y = int_rem x y
operate w size Bin.And x y = int_bit_and w x y
operate w size Bin.Or x y = int_bit_or w x y
operate w size Bin.Xor x y = int_bit_xor w x y
operate w size Bin.Shl x y = int_shl w x (bits32 y % size)
operate w size Bin.Shr x y = int_shr x (bits32 y % size)
operate w size Bin.Ushr x y = cast_signed w (cast_unsigned w x / 2 ^ (bits32 y % size))

abbrev pub operate32 : Bin → ℤ → ℤ → ℤ
operate32 o x y = operate w32 32 o x y

abbrev pub operate64 : Bin → ℤ → ℤ → ℤ
operate64 o x y = operate w64 64 o x y

-- the low bits, signed but for a character's
abbrev pub to_byte : ℤ → ℤ
to_byte x = cast_signed w8 (bits32 x % 2 ^ 8)

abbrev pub to_char : ℤ → ℤ
to_char x = pos (bits32 x % 2 ^ 16)

abbrev pub to_short : ℤ → ℤ
to_short x = cast_signed w16 (bits32 x % 2 ^ 16)

abbrev pub unary_at : Width → Unary → ℤ → ℤ
unary_at w Unary.Neg x = int_wrapping_neg w x
unary_at w Unary.Not x = int_bit_not w x
unary_at w Unary.ToByte x = to_byte x
unary_at w Unary.ToChar x = to_char x
unary_at w Unary.ToShort x = to_short x

abbrev pub compare : Test → ℤ → ℤ → Bool
compare Test.Eq x y = int_eq x y
compare Test.Ne x y = not (int_eq x y)
compare Test.Lt x y = int_lt x y
compare Test.Ge x y = int_le y x
compare Test.Gt x y = int_lt y x
compare Test.Le x y = int_le x y

abbrev pub sign_of : Bool → Bool → ℤ
sign_of true b = negsuc 0
sign_of false true = pos 1
sign_of false false = pos 0

-- -1, 0 or 1
abbrev pub compare_long : ℤ → ℤ → ℤ
compare_long x y = sign_of (int_lt x y) (int_lt y x)

-- a signed number of so many bits
abbrev pub signed_at : ℕ → ℕ → ℤ
signed_at bits n = elim (nat_lt n (2 ^ (bits - 1))) [ true ↦ pos n | false ↦ negsuc (2 ^ bits - suc n) ]

-- an address that no instruction has: a body has at most 16,384 units
abbrev pub nowhere : ℕ
nowhere = 65536

abbrev pub address_or_nowhere : ℤ → ℕ
address_or_nowhere (pos n) = n
address_or_nowhere (negsuc n) = nowhere

-- the address at a distance from another
abbrev pub jump : ℕ → ℤ → ℕ
jump at off = address_or_nowhere (pos at +ℤ off)

-- bytes as a number, the lowest first
abbrev pub low_first : List ℕ → ℕ
low_first [] = 0
low_first (b ∷ bs) = b + 256 * low_first bs

-- so many elements of so many bytes each, signed
abbrev pub elements : ℕ → ℕ → List ℕ → List ℤ
elements zero width bytes = []
elements (suc n) width bytes = signed_at (8 * width) (low_first (take width bytes)) ∷ elements n width (drop width bytes)
