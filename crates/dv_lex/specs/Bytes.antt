-- What a byte of a line is to the cutting of tokens, and what may stand behind a backslash.
use Rattle.std.specs.Prelude.{ℕ, Bool, true, false, List, [], ◌∷◌, ◌==◌, ◌||◌, ◌&&◌, nat_lt, nat_le, if◌then◌else◌}
use Rattle.dv_lex.specs.declared.bytes.Class.{Class}
use Rattle.dv_lex.specs.declared.bytes.Class.TheVariants.{Blank, Hash, Mark, Quote, Control, Plain}

-- a blank or a tab; a hash; a brace, a comma or an equals sign; a quote of either kind; any other character below U+0020; any other byte
unfoldable pub byte_class : ℕ → Class
byte_class b =
    if (b == 32) || (b == 9) then Blank
    else if b == 35 then Hash
    else if (b == 123) || (b == 125) || (b == 44) || (b == 61) then Mark
    else if (b == 34) || (b == 39) then Quote
    else if nat_lt b 32 then Control
    else Plain

abbrev pub is_plain_class : Class → Bool
is_plain_class Blank = false
is_plain_class Hash = false
is_plain_class Mark = false
is_plain_class Quote = false
is_plain_class Control = false
is_plain_class Plain = true

abbrev pub is_control_class : Class → Bool
is_control_class Blank = false
is_control_class Hash = false
is_control_class Mark = false
is_control_class Quote = false
is_control_class Control = true
is_control_class Plain = false

-- a byte of a word
abbrev pub is_plain : ℕ → Bool
is_plain b = is_plain_class (byte_class b)

-- a control character other than a tab
abbrev pub is_control : ℕ → Bool
is_control b = is_control_class (byte_class b)

-- a hexadecimal digit of either case
abbrev pub is_hexadecimal : ℕ → Bool
is_hexadecimal b = (nat_le 48 b && nat_le b 57) || (nat_le 97 b && nat_le b 102) || (nat_le 65 b && nat_le b 70)

-- a byte that is an escape behind a backslash: n t r b f ' " and the backslash
abbrev pub is_short : ℕ → Bool
is_short b = (b == 110) || (b == 116) || (b == 114) || (b == 98) || (b == 102) || (b == 39) || (b == 34) || (b == 92)

-- four hexadecimal digits
abbrev pub begins_with_four : List ℕ → Bool
begins_with_four (a ∷ b ∷ c ∷ d ∷ bs) = is_hexadecimal a && is_hexadecimal b && is_hexadecimal c && is_hexadecimal d
begins_with_four _ = false

-- whether an escape stands behind a backslash: one of those bytes, or u and four hexadecimal digits
unfoldable pub is_escape : List ℕ → Bool
is_escape [] = false
is_escape (b ∷ bs) = if b == 117 then begins_with_four bs else is_short b

-- the bytes of an escape, without its backslash
abbrev pub escape_length : List ℕ → ℕ
escape_length [] = 0
escape_length (b ∷ bs) = if b == 117 then 5 else 1

-- how many UTF-16 units the character has of which this is the first byte; a later byte of a character counts for none
abbrev pub units_begun : ℕ → ℕ
units_begun b = if nat_lt b 128 then 1 else if nat_lt b 192 then 0 else if nat_lt b 240 then 1 else 2
