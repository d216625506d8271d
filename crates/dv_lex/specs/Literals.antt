-- What stands between the quotes of a literal, and the UTF-16 units that it means (JLS 3.10.4, 3.10.5, 3.10.7). Other than in Java, \u with
-- its digits is an escape like the rest, there is none in octal digits, and no control character but the tab stands for itself.
use Rattle.std.specs.Prelude.{◌≡◌, ℕ, ◌+◌, ◌-◌, ◌*◌, true, false, List, [], ◌∷◌, ◌++◌, encode_utf8, nat_lt, ◌==◌, if◌then◌else◌}
use Rattle.std.specs.Char.{IsScalar}
use Rattle.std.specs.Char.Escape.{encode_utf16}
use Rattle.dv_lex.specs.Bytes.{is_control, is_short, begins_with_four}

-- n, t, r, b and f stand for a control character, any other byte for itself
abbrev pub short_unit : ℕ → ℕ
short_unit b = if b == 110 then 10 else if b == 116 then 9 else if b == 114 then 13 else if b == 98 then 8 else if b == 102 then 12 else b

-- what a hexadecimal digit of either case stands for
abbrev pub digit_value : ℕ → ℕ
digit_value b = if nat_lt b 58 then b - 48 else if nat_lt b 71 then b - 55 else b - 87

abbrev pub four_value : ℕ → ℕ → ℕ → ℕ → ℕ
four_value a b c d = digit_value a * 4096 + digit_value b * 256 + digit_value c * 16 + digit_value d

-- what four hexadecimal digits stand for
abbrev pub value_of_four : List ℕ → ℕ
value_of_four (a ∷ b ∷ c ∷ d ∷ bs) = four_value a b c d
value_of_four _ = 0

-- the unit of the escape that stands behind a backslash
abbrev pub escape_unit : List ℕ → ℕ
escape_unit [] = 0
escape_unit (b ∷ bs) = if b == 117 then value_of_four bs else short_unit b

-- These units are written by these bytes, in a literal that this quote ends.
pub data Writes (q : ℕ) : List ℕ → List ℕ → Type 0 where
  Nothing : Writes q [] []
  -- a character for itself
  One : (c : ℕ) (us bs : List ℕ) → IsScalar c → (c == q) ≡ false → is_control c ≡ false → (c == 92) ≡ false
      → Writes q us bs → Writes q (encode_utf16 c ++ us) (encode_utf8 c ++ bs)
  -- a backslash and one of n t r b f ' " \
  Short : (b : ℕ) (us bs : List ℕ) → (b == 117) ≡ false → is_short b ≡ true → Writes q us bs → Writes q (short_unit b ∷ us) (92 ∷ b ∷ bs)
  -- a backslash, u and four hexadecimal digits
  Unicode : (a b c d : ℕ) (us bs : List ℕ) → begins_with_four (a ∷ b ∷ c ∷ d ∷ bs) ≡ true → Writes q us bs
      → Writes q (four_value a b c d ∷ us) (92 ∷ 117 ∷ a ∷ b ∷ c ∷ d ∷ bs)

-- the text of a literal with these units, its quotes with it
pub record IsLiteral (q : ℕ) (units text : List ℕ) : Type 0 where
  pub inner : List ℕ
  pub quoted : text ≡ q ∷ (inner ++ q ∷ [])
  pub writes : Writes q units inner

-- a string literal, of any units; a character literal, of one
abbrev pub IsString : List ℕ → List ℕ → Type 0
IsString units text = IsLiteral 34 units text

abbrev pub IsCharacter : ℕ → List ℕ → Type 0
IsCharacter unit text = IsLiteral 39 (unit ∷ []) text

-- the text is a string literal of some units; a character literal of some unit
abbrev pub IsSomeString : List ℕ → Type 0
IsSomeString text = (units : List ℕ) × IsString units text

abbrev pub IsSomeCharacter : List ℕ → Type 0
IsSomeCharacter text = (unit : ℕ) × IsCharacter unit text
