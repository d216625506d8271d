-- Strings and references to members as a smali text has them.
use Rattle.std.specs.Prelude.{ℕ, ◌+◌, ◌/◌, ◌%◌, ◌&&◌, ◌||◌, Bool, nat_le, nat_lt, List, [], ◌∷◌, ◌++◌, codes, if◌then◌else◌}
use Rattle.std.specs.List.{flat_map}
pub use Rattle.dv_defs.specs.Written.{field_text, method_text}

-- a hexadecimal digit
abbrev pub digit : ℕ → ℕ
digit n = if nat_lt n 10 then 48 + n else 87 + n

-- a number of 16 bits as four hexadecimal digits
abbrev pub hexadecimal : ℕ → List ℕ
hexadecimal n = digit (n / 4096 % 16) ∷ digit (n / 256 % 16) ∷ digit (n / 16 % 16) ∷ digit (n % 16) ∷ []

-- a unit that stands for itself: printable ASCII other than the quote and the backslash
abbrev pub is_raw : ℕ → Bool
is_raw u = nat_le 32 u && nat_le u 126 && (nat_lt u 34 || nat_lt 34 u) && (nat_lt u 92 || nat_lt 92 u)

abbrev pub unit_text : ℕ → List ℕ
unit_text u = if is_raw u then u ∷ [] else codes "\\u" ++ hexadecimal u

-- the units in quotes
abbrev pub string_text : List ℕ → List ℕ
string_text units = codes "\"" ++ flat_map unit_text units ++ codes "\""
