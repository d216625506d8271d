-- What is true of all literals.
use Rattle.std.specs.Prelude.{◌≡◌, ℕ, ◌^◌, ◌<◌, List, All, IsUtf8}
use Rattle.dv_names.specs.Written.{string_text}
use Rattle.dv_lex.specs.Literals.{Writes, IsString}

-- the same bytes between quotes mean the same units
abbrev pub UnitsAreDetermined : Type 0
UnitsAreDetermined = (q : ℕ) (us vs bs : List ℕ) → Writes q us bs → Writes q vs bs → us ≡ vs

-- a string of units of 16 bits as it is printed is a literal of these units
abbrev pub PrintedStringsAreLiterals : Type 0
PrintedStringsAreLiterals = (units : List ℕ) → All (λ u. u < 2 ^ 16) units → IsString units (string_text units)

-- what stands between quotes is UTF-8, and means units of 16 bits
abbrev pub LiteralsAreUtf8 : Type 0
LiteralsAreUtf8 = (q : ℕ) (us bs : List ℕ) → Writes q us bs → IsUtf8 bs × All (λ u. u < 2 ^ 16) us
