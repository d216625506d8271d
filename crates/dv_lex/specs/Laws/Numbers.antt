-- The laws of numbers.
use Rattle.std.specs.Prelude.{◌≡◌, ℕ, ◌^◌, ◌-◌, ◌<◌, ◌≤ℤ◌, ◌<ℤ◌, ℤ, pos, true, List, ◌++◌, Some, length, unsigned_abs}
use Rattle.std.specs.Fmt.{decimal, signed_decimal}
use Rattle.std.specs.List.{list_all}
use Rattle.dv_lex.specs.Bytes.{is_plain}
use Rattle.dv_lex.specs.Numbers.{Number, Spells, IsNumber, is_suffix, negated, signed, in_bits}

-- A text spells one number at most.
abbrev pub NumbersAreDetermined : Type 0
NumbersAreDetermined = (text : List ℕ) (m n : Number) → Spells text m → Spells text n → m ≡ n

-- a signed number of so many bits
abbrev pub IsSigned : ℕ → ℤ → Type 0
IsSigned bits z = (negated (2 ^ (bits - 1)) ≤ℤ z) × (z <ℤ pos (2 ^ (bits - 1)))

-- What is printed of a whole number, with a suffix or none, spells a number of that value, which fits where so many bits hold it. A print has 64
-- digits at most.
abbrev pub PrintedNumbersAreRead : Type 0
PrintedNumbersAreRead = (z : ℤ) (w : List ℕ) → unsigned_abs z < 10 ^ 64 → is_suffix w ≡ true
    → (n : Number) × Spells (signed_decimal z ++ w) n × (signed n ≡ z) × ((bits : ℕ) → IsSigned bits z → in_bits bits n ≡ Some z)

-- The same of a number without a sign.
abbrev pub UnsignedPrintedNumbersAreRead : Type 0
UnsignedPrintedNumbersAreRead = (v : ℕ) (w : List ℕ) → v < 10 ^ 64 → is_suffix w ≡ true
    → (n : Number) × Spells (decimal v ++ w) n × (signed n ≡ pos v) × ((bits : ℕ) → v < 2 ^ (bits - 1) → in_bits bits n ≡ Some (pos v))

-- A text that spells a number isn't empty and has plain bytes alone, so it can stand as one word.
abbrev pub NumbersAreWords : Type 0
NumbersAreWords = (text : List ℕ) → IsNumber text → (0 < length text) × (list_all is_plain text ≡ true)
