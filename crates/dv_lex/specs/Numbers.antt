-- Numbers as they are written, and the numbers that they mean.
use Rattle.std.specs.Prelude.{◌≡◌, ℕ, zero, suc, ◌+◌, ◌-◌, ◌*◌, ◌^◌, ◌<◌, ℤ, pos, negsuc, Bool, true, false, ◌&&◌, ◌||◌, List, [], ◌∷◌, ◌++◌, length, codes, Option, Some, None, Result, MatchResult, nat_lt, nat_le, ◌==◌, if◌then◌else◌}
use Rattle.std.specs.List.{list_all}
use Rattle.dv_defs.specs.declared.faults.LineKind.TheVariants.{NumberRange}
use Rattle.dv_defs.specs.declared.faults.LineError.{LineError}
use Rattle.dv_defs.specs.declared.faults.LineError.TheVariants.{At}
use Rattle.dv_lex.specs.Bytes.{is_hexadecimal}
use Rattle.dv_lex.specs.Literals.{digit_value}

-- ---- the written form

-- a sign or none, `0x` or none, digits, and a suffix or none
pub record Number : Type 0 where
  pub negative : Bool
  pub hexadecimal : Bool
  pub digits : List ℕ
  pub suffix : List ℕ

abbrev pub when : Bool → List ℕ → List ℕ
when true w = w
when false w = []

abbrev pub spelling : Number → List ℕ
spelling n = when n.negative (codes "-") ++ when n.hexadecimal (codes "0x") ++ n.digits ++ n.suffix

abbrev pub is_decimal : ℕ → Bool
is_decimal b = nat_le 48 b && nat_le b 57

abbrev pub is_digit : Bool → ℕ → Bool
is_digit true b = is_hexadecimal b
is_digit false b = is_decimal b

-- nothing, or one of L, s and t
abbrev pub is_suffix : List ℕ → Bool
is_suffix [] = true
is_suffix (b ∷ []) = (b == 76) || (b == 115) || (b == 116)
is_suffix _ = false

-- the text spells this number
pub record Spells (text : List ℕ) (n : Number) : Type 0 where
  pub spelled : text ≡ spelling n
  pub some : 0 < length n.digits
  pub digits : list_all (is_digit n.hexadecimal) n.digits ≡ true
  pub suffix : is_suffix n.suffix ≡ true

-- the text spells some number
abbrev pub IsNumber : List ℕ → Type 0
IsNumber text = (n : Number) × Spells text n

-- ---- the value

abbrev pub base_of : Bool → ℕ
base_of true = 16
base_of false = 10

-- what digits mean behind others of this value
unfoldable pub value_from : ℕ → ℕ → List ℕ → ℕ
value_from base v [] = v
value_from base v (b ∷ bs) = value_from base (v * base + digit_value b) bs

-- the value without its sign, which has no bound
abbrev pub magnitude : Number → ℕ
magnitude n = value_from (base_of n.hexadecimal) 0 n.digits

abbrev pub negated : ℕ → ℤ
negated zero = pos 0
negated (suc n) = negsuc n

abbrev pub signed : Number → ℤ
signed n = if n.negative then negated (magnitude n) else pos (magnitude n)

-- ---- the value in so many bits

-- widths in which a hexadecimal number without a sign may have the highest bit set
abbrev pub is_whole : ℕ → Bool
is_whole bits = (bits == 32) || (bits == 64)

-- the number in so many bits, if it fits: two's complement for a hexadecimal number without a sign in 32 and in 64 bits
abbrev pub in_bits : ℕ → Number → Option ℤ
in_bits bits n =
    if n.negative then (if nat_le (magnitude n) (2 ^ (bits - 1)) then Some (negated (magnitude n)) else None)
    else if nat_lt (magnitude n) (2 ^ (bits - 1)) then Some (pos (magnitude n))
    else if n.hexadecimal && is_whole bits && nat_lt (magnitude n) (2 ^ bits) then Some (negated (2 ^ bits - magnitude n))
    else None

-- An answer on this line is the number that was found, or refuses the line where there is none.
abbrev pub Means : ℕ → Result ℤ LineError → Option ℤ → Type 0
Means line result found = MatchResult result (λ v. found ≡ Some v) (λ e. (e ≡ At line NumberRange) × (found ≡ None))
