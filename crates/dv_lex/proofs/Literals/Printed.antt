-- A string as it is printed is a literal of its units.
use Rattle.std.proofs.Common.{◌≡◌, ℕ, ◌/◌, ◌%◌, ◌^◌, ◌<◌, ◌==◌, true, false, List, [], ◌∷◌, ◌++◌, All, inl, inr, refl, subst, arith}
use lib.Utf8.{low_scalar}
use Rattle.std.specs.List.{flat_map}
use Rattle.std.proofs.lemmas.Bool.{cases_Bool}
use Rattle.std.proofs.lemmas.Bool.Decides.{nat_tests}
use Rattle.std.proofs.lemmas.List.Elements.{All-head, All-tail}
use Rattle.std.proofs.lemmas.Str.{encode_ascii}
use Rattle.dv_names.specs.Written.{digit, is_raw, string_text, unit_text}
use Rattle.dv_lex.specs.Bytes.{begins_with_four, byte_class, is_control, is_hexadecimal}
use Rattle.dv_lex.specs.Literals.{Writes, Nothing, One, Unicode, digit_value, four_value, IsString}
use Rattle.dv_lex.proofs.Literals.Units.{Has16, one_unit}

-- ---- digits

digit_again : (d : ℕ) → d < 16 → digit_value (digit d) ≡ d
digit_again d lt = grind (arith, nat_tests)

digit_is : (d : ℕ) → d < 16 → is_hexadecimal (digit d) ≡ true
digit_is d lt = grind (arith, nat_tests)

-- ---- one unit

-- printable ASCII other than the quote and the backslash
record Plain (u : ℕ) : Type 0 where
  low : u < 128
  no_quote : (u == 34) ≡ false
  no_control : is_control u ≡ false
  no_slash : (u == 92) ≡ false

is_plain : (u : ℕ) → is_raw u ≡ true → Plain u
unfolding byte_class
is_plain u is = record { low = grind (arith, nat_tests); no_quote = grind (arith, nat_tests); no_control = grind (arith, nat_tests); no_slash = grind (arith, nat_tests) }

raw_unit : (u : ℕ) (us bs : List ℕ) → is_raw u ≡ true → Writes 34 us bs → Writes 34 (u ∷ us) (unit_text u ++ bs)
raw_unit u us bs is w =
    let plain = is_plain u is in
    let low = plain.low in
    let one = One u us bs (low_scalar u (omega arith)) plain.no_quote plain.no_control plain.no_slash w in
    let fits : u < 2 ^ 16 = omega arith in
    rw is (rw (one_unit u fits, encode_ascii u low) at one)

escaped_unit : (u : ℕ) (us bs : List ℕ) → is_raw u ≡ false → Has16 u → Writes 34 us bs → Writes 34 (u ∷ us) (unit_text u ++ bs)
escaped_unit u us bs not_raw fits w =
    let a = digit (u / 4096 % 16) in
    let b = digit (u / 256 % 16) in
    let c = digit (u / 16 % 16) in
    let d = digit (u % 16) in
    let four : begins_with_four (a ∷ b ∷ c ∷ d ∷ bs) ≡ true =
    rw (digit_is (u / 4096 % 16) (omega arith), digit_is (u / 256 % 16) (omega arith), digit_is (u / 16 % 16) (omega arith), digit_is (u % 16) (omega arith)) refl in
    let value : four_value a b c d ≡ u =
    rw (digit_again (u / 4096 % 16) (omega arith), digit_again (u / 256 % 16) (omega arith), digit_again (u / 16 % 16) (omega arith), digit_again (u % 16) (omega arith)) (omega arith) in
    rw not_raw (subst (λ x. Writes 34 (x ∷ us) (92 ∷ 117 ∷ a ∷ b ∷ c ∷ d ∷ bs)) value (Unicode a b c d us bs four w))

one_written : (u : ℕ) (us bs : List ℕ) → Has16 u → Writes 34 us bs → Writes 34 (u ∷ us) (unit_text u ++ bs)
one_written u us bs fits w = elim (cases_Bool (is_raw u)) [ inl is ↦ raw_unit u us bs is w | inr not_raw ↦ escaped_unit u us bs not_raw fits w ]

-- ---- all units

all_written : (us : List ℕ) → All Has16 us → Writes 34 us (flat_map unit_text us)
all_written [] fit = Nothing
all_written (u ∷ us) fit = one_written u us (flat_map unit_text us) (All-head Has16 u us fit) (all_written us (All-tail Has16 u us fit))

pub printed : (us : List ℕ) → All Has16 us → IsString us (string_text us)
printed us fit = record { inner = flat_map unit_text us; quoted = refl; writes = all_written us fit }
