-- What stands between the quotes of a literal means units of 16 bits.
use Rattle.std.proofs.Common.{◌≡◌, ℕ, ◌+◌, ◌-◌, ◌/◌, ◌%◌, ◌^◌, ◌<◌, ◌≤◌, true, ◌&&◌, List, [], ◌∷◌, All, inl, inr, arith}
use lib.Utf8.{scalar_cases}
use Rattle.std.specs.Char.{IsScalar}
use Rattle.std.specs.Char.Escape.{encode_utf16}
use Rattle.std.proofs.lemmas.Bool.{and_parts, cases_lt, cond-true, cond-false, lt-ltb, le-ltb}
use Rattle.std.proofs.lemmas.Bool.Decides.{nat_tests}
use Rattle.std.proofs.lemmas.List.Elements.{All-nil, All-cons, All-append, All-same}
use Rattle.dv_lex.specs.Bytes.{begins_with_four, is_hexadecimal, is_short}
use Rattle.dv_lex.specs.Literals.{Writes, Nothing, One, Short, Unicode, digit_value, four_value, short_unit}

abbrev pub Has16 : ℕ → Type 0
Has16 u = u < 2 ^ 16

-- ---- digits and short escapes

pub digit_small : (b : ℕ) → is_hexadecimal b ≡ true → digit_value b < 16
digit_small b is = grind (arith, nat_tests)

pub digit_some : (b : ℕ) → is_hexadecimal b ≡ true → 0 < b
digit_some b is = grind (arith, nat_tests)

pub short_some : (b : ℕ) → is_short b ≡ true → 0 < b
short_some b is = grind (arith, nat_tests)

pub short_unit_small : (b : ℕ) → is_short b ≡ true → short_unit b < 128
short_unit_small b is = grind (arith, nat_tests)

pub record FourDigits (a b c d : ℕ) : Type 0 where
  pub first : is_hexadecimal a ≡ true
  pub second : is_hexadecimal b ≡ true
  pub third : is_hexadecimal c ≡ true
  pub fourth : is_hexadecimal d ≡ true

pub four_digits : (a b c d : ℕ) (bs : List ℕ) → begins_with_four (a ∷ b ∷ c ∷ d ∷ bs) ≡ true → FourDigits a b c d
four_digits a b c d bs is =
    let front = and_parts (is_hexadecimal a && is_hexadecimal b && is_hexadecimal c) (is_hexadecimal d) is in
    let two = and_parts (is_hexadecimal a && is_hexadecimal b) (is_hexadecimal c) front.0 in
    let one = and_parts (is_hexadecimal a) (is_hexadecimal b) two.0 in
    record { first = one.0; second = one.1; third = two.1; fourth = front.1 }

four_small : (a b c d : ℕ) → FourDigits a b c d → Has16 (four_value a b c d)
four_small a b c d is = omega (arith, digit_small a is.first, digit_small b is.second, digit_small c is.third, digit_small d is.fourth)

-- ---- one unit or two

pub one_unit : (c : ℕ) → c < 2 ^ 16 → encode_utf16 c ≡ c ∷ []
one_unit c lt = cond-true _ _ _ (lt-ltb c (2 ^ 16) lt)

two_units : (c : ℕ) → 2 ^ 16 ≤ c → encode_utf16 c ≡ (0xD800 + (c - 0x1_0000) / 0x400) ∷ (0xDC00 + (c - 0x1_0000) % 0x400) ∷ []
two_units c le = cond-false _ _ _ (le-ltb c (2 ^ 16) le)

character_units : (c : ℕ) → IsScalar c → All Has16 (encode_utf16 c)
character_units c scalar =
    elim (cases_lt c (2 ^ 16)) [
      | inl lt ↦ All-same Has16 (encode_utf16 c) (c ∷ []) (one_unit c lt) (All-cons Has16 c [] lt (All-nil Has16))
      | inr le ↦
          let high = 0xD800 + (c - 0x1_0000) / 0x400 in
          let low = 0xDC00 + (c - 0x1_0000) % 0x400 in
          let top : c < 0x11_0000 = elim (scalar_cases c scalar) [ inl lt ↦ omega arith | inr range ↦ range.1 ] in
          All-same Has16 (encode_utf16 c) (high ∷ low ∷ []) (two_units c le) (All-cons Has16 high (low ∷ []) (omega arith) (All-cons Has16 low [] (omega arith) (All-nil Has16)))
    ]

-- ---- all units

pub units_fit : {q : ℕ} {us bs : List ℕ} → Writes q us bs → All Has16 us
units_fit Nothing = All-nil Has16
units_fit (One c us bs scalar no_quote no_control no_slash w) = All-append Has16 (encode_utf16 c) us (character_units c scalar) (units_fit w)
units_fit (Short b us bs no_u is w) = All-cons Has16 (short_unit b) us (omega (arith, short_unit_small b is)) (units_fit w)
units_fit (Unicode a b c d us bs four w) = All-cons Has16 (four_value a b c d) us (four_small a b c d (four_digits a b c d bs four)) (units_fit w)
