-- A string as it is printed is read as its units.
use Rattle.std.proofs.Common.{◌≡◌, ℕ, ◌-◌, ◌/◌, ◌%◌, ◌^◌, ◌<◌, ◌==◌, true, false, List, [], ◌∷◌, ◌++◌, length, take, All, inl, inr, refl, ap, ◌∙◌, arith, lit<, length-append}
use Rattle.std.specs.List.{flat_map}
use Rattle.std.specs.Str.{chars, IsAscii}
use Rattle.std.proofs.lemmas.Bool.{cases_Bool}
use Rattle.std.proofs.lemmas.Bool.Decides.{nat_tests}
use Rattle.std.proofs.lemmas.List.{take_at}
use Rattle.std.proofs.lemmas.List.Elements.{All-head, All-tail}
use Rattle.std.proofs.lemmas.Str.{chars-IsAscii}
use Rattle.std.proofs.lemmas.Str.Ascii.{IsAscii-nil, IsAscii-cons}
use Rattle.dv_names.specs.Written.{digit, is_raw, hexadecimal, string_text, unit_text}
use Rattle.dv_lex.specs.Literals.{digit_value, four_value}
use Rattle.dv_lex.proofs.Literals.Units.{one_unit}
use Rattle.dv_coderead.specs.Words.{string_of, units_of}

-- ---- digits

pub digit_small : (d : ℕ) → d < 16 → digit d < 128
digit_small d lt = grind (arith, nat_tests)

pub digit_again : (d : ℕ) → d < 16 → digit_value (digit d) ≡ d
digit_again d lt = grind (arith, nat_tests)

pub hexadecimal_ascii : (u : ℕ) (bs : List ℕ) → IsAscii bs → IsAscii (hexadecimal u ++ bs)
hexadecimal_ascii u bs h =
    let a = digit (u / 4096 % 16) in
    let b = digit (u / 256 % 16) in
    let c = digit (u / 16 % 16) in
    let d = digit (u % 16) in
    IsAscii-cons a (b ∷ c ∷ d ∷ bs) (digit_small (u / 4096 % 16) (omega arith)) (IsAscii-cons b (c ∷ d ∷ bs) (digit_small (u / 256 % 16) (omega arith))
    (IsAscii-cons c (d ∷ bs) (digit_small (u / 16 % 16) (omega arith)) (IsAscii-cons d bs (digit_small (u % 16) (omega arith)) h)))

four_again : (u : ℕ) → u < 2 ^ 16 → four_value (digit (u / 4096 % 16)) (digit (u / 256 % 16)) (digit (u / 16 % 16)) (digit (u % 16)) ≡ u
four_again u fits =
    rw (digit_again (u / 4096 % 16) (omega arith), digit_again (u / 256 % 16) (omega arith), digit_again (u / 16 % 16) (omega arith), digit_again (u % 16) (omega arith)) (omega arith)

-- ---- one unit

raw_small : (u : ℕ) → is_raw u ≡ true → u < 128
raw_small u is = grind (arith, nat_tests)

raw_apart : (u : ℕ) → is_raw u ≡ true → (u == 92) ≡ false
raw_apart u is = grind (arith, nat_tests)

unit_ascii : (u : ℕ) (bs : List ℕ) → IsAscii bs → IsAscii (unit_text u ++ bs)
unit_ascii u bs h =
    elim (cases_Bool (is_raw u)) [
      | inl is ↦ rw is (IsAscii-cons u bs (raw_small u is) h)
      | inr other ↦ rw other (IsAscii-cons 92 (117 ∷ (hexadecimal u ++ bs)) (lit< tt) (IsAscii-cons 117 (hexadecimal u ++ bs) (lit< tt) (hexadecimal_ascii u bs h)))
    ]

raw_units : (u : ℕ) (bs : List ℕ) → (u == 92) ≡ false → u < 2 ^ 16 → units_of 0 (u ∷ bs) ≡ u ∷ units_of 0 bs
unfolding units_of
raw_units u bs apart fits = rw (apart, one_unit u fits) refl

escaped_units : (a b c d : ℕ) (bs : List ℕ) → units_of 0 (92 ∷ 117 ∷ a ∷ b ∷ c ∷ d ∷ bs) ≡ four_value a b c d ∷ units_of 0 bs
unfolding units_of
escaped_units a b c d bs = refl

unit_read : (u : ℕ) (bs : List ℕ) → u < 2 ^ 16 → units_of 0 (unit_text u ++ bs) ≡ u ∷ units_of 0 bs
unit_read u bs fits =
    elim (cases_Bool (is_raw u)) [
      | inl is ↦ rw is (raw_units u bs (raw_apart u is) fits)
      | inr other ↦ rw other (escaped_units _ _ _ _ bs ∙ ap (λ v. v ∷ units_of 0 bs) (four_again u fits))
    ]

-- ---- all units

no_units : units_of 0 [] ≡ []
unfolding units_of
no_units = refl

units_ascii : (us : List ℕ) → IsAscii (flat_map unit_text us)
units_ascii [] = IsAscii-nil
units_ascii (u ∷ us) = unit_ascii u (flat_map unit_text us) (units_ascii us)

units_read : (us : List ℕ) → All (λ u. u < 2 ^ 16) us → units_of 0 (flat_map unit_text us) ≡ us
units_read [] fit = no_units
units_read (u ∷ us) fit =
    unit_read u (flat_map unit_text us) (All-head (λ v. v < 2 ^ 16) u us fit) ∙ ap (λ vs. u ∷ vs) (units_read us (All-tail (λ v. v < 2 ^ 16) u us fit))

pub string_read : (us : List ℕ) → All (λ u. u < 2 ^ 16) us → string_of (string_text us) ≡ us
string_read us fit =
    let inner = flat_map unit_text us in
    let size : length (string_text us) - 2 ≡ length inner = omega (arith, length-append inner (34 ∷ [])) in
    let inside : take (length (string_text us) - 2) (inner ++ 34 ∷ []) ≡ inner = ap (λ n. take n (inner ++ 34 ∷ [])) size ∙ take_at inner (34 ∷ []) (length inner) refl in
    ap (λ l. units_of 0 (chars l)) inside ∙ ap (units_of 0) (chars-IsAscii inner (units_ascii us)) ∙ units_read us fit
