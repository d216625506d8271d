-- The next character of a text that begins with an ASCII byte.
use Rattle.std.proofs.Common.{◌≡◌, ℕ, ◌<◌, ◌==◌, true, false, inl, inr, List, [], ◌∷◌, ◌++◌, length, drop, get_or, encode_utf8, sym, ap, ◌∙◌, arith}
use Rattle.std.proofs.lemmas.Bool.{cases_eq, cond-true, cond-false, eq-eqb, ne_eqb}
use Rattle.std.proofs.lemmas.Str.{encode_ascii, encode_same}
use Rattle.dv_lex.specs.Bytes.{begins_with_four, escape_length, is_escape, is_hexadecimal, is_short}
use Rattle.dv_lex.specs.Literals.{escape_unit, short_unit, value_of_four}
use Rattle.dv_lex.proofs.Grammar.Utf8.{hexadecimal_small, short_small}
use Rattle.dv_lex.proofs.Literals.Units.{FourDigits, digit_some, four_digits, short_some}

pub record IsByte (c : ℕ) (bs rest : List ℕ) : Type 0 where
  pub same : c ≡ get_or bs 0 0
  pub behind : rest ≡ drop 1 bs

-- it is this byte
pub ascii_next : (bs rest : List ℕ) (c : ℕ) → bs ≡ encode_utf8 c ++ rest → 0 < get_or bs 0 0 → get_or bs 0 0 < 128 → IsByte c bs rest
ascii_next [] rest c e some low = absurd (omega arith)
ascii_next (b ∷ bs) rest c e some low =
    let same = encode_same c b rest bs (sym e ∙ ap (λ l. l ++ bs) (sym (encode_ascii b low))) in
    record { same = same.0; behind = same.1 }

-- a digit
pub digit_next : (bs rest : List ℕ) (c : ℕ) → bs ≡ encode_utf8 c ++ rest → is_hexadecimal (get_or bs 0 0) ≡ true → IsByte c bs rest
digit_next bs rest c e is = ascii_next bs rest c e (digit_some (get_or bs 0 0) is) (hexadecimal_small (get_or bs 0 0) is)

-- the first of these bytes, and those behind so many
abbrev pub At : ℕ → List ℕ → ℕ
At i bs = get_or bs i 0

pub four_next : (bs : List ℕ) → begins_with_four bs ≡ true → FourDigits (At 0 bs) (At 1 bs) (At 2 bs) (At 3 bs)
four_next [] is = absurd (cc)
four_next (a ∷ []) is = absurd (cc)
four_next (a ∷ b ∷ []) is = absurd (cc)
four_next (a ∷ b ∷ c ∷ []) is = absurd (cc)
four_next (a ∷ b ∷ c ∷ d ∷ bs) is = four_digits a b c d bs is

-- ---- escapes

pub record IsUnicode (bs : List ℕ) : Type 0 where
  pub four : begins_with_four (drop 1 bs) ≡ true
  pub unit : escape_unit bs ≡ value_of_four (drop 1 bs)
  pub size : escape_length bs ≡ 5

pub record IsShort (bs : List ℕ) : Type 0 where
  pub short : is_short (At 0 bs) ≡ true
  pub unit : escape_unit bs ≡ short_unit (At 0 bs)
  pub size : escape_length bs ≡ 1

-- an escape that begins with u
pub unicode_next : (bs : List ℕ) → is_escape bs ≡ true → At 0 bs ≡ 117 → IsUnicode bs
unfolding is_escape
unicode_next [] is e = absurd (cc)
unicode_next (b ∷ bs) is e =
    let u : (b == 117) ≡ true = eq-eqb b 117 e in
    record { four = rw u at is; unit = cond-true (b == 117) _ _ u; size = cond-true (b == 117) _ _ u }

-- an escape that does not
pub short_next : (bs : List ℕ) → is_escape bs ≡ true → (At 0 bs ≡ 117 → ⊥) → IsShort bs
unfolding is_escape
short_next [] is ne = absurd (cc)
short_next (b ∷ bs) is ne =
    let other : (b == 117) ≡ false = ne_eqb b 117 ne in
    record { short = rw other at is; unit = cond-false (b == 117) _ _ other; size = cond-false (b == 117) _ _ other }

escape_ascii : (bs : List ℕ) → is_escape bs ≡ true → (0 < At 0 bs) × (At 0 bs < 128)
escape_ascii bs is =
    elim (cases_eq (At 0 bs) 117) [
      | inl e ↦ (omega arith, omega arith)
      | inr ne ↦ let short = (short_next bs is ne).short in (short_some (At 0 bs) short, short_small (At 0 bs) short)
    ]

pub escape_next : (bs rest : List ℕ) (c : ℕ) → bs ≡ encode_utf8 c ++ rest → is_escape bs ≡ true → IsByte c bs rest
escape_next bs rest c e is = let ascii = escape_ascii bs is in ascii_next bs rest c e ascii.0 ascii.1

-- an escape has bytes
pub escape_some : (bs : List ℕ) → is_escape bs ≡ true → length bs ≡ 0 → ⊥
unfolding is_escape
escape_some [] is none = absurd (cc)
escape_some (b ∷ bs) is none = omega arith
