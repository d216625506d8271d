-- What is printed of a number is read as that number.
use Rattle.std.proofs.Common.{◌≡◌, ℕ, zero, suc, ◌+◌, ◌-◌, ◌*◌, ◌/◌, ◌%◌, ◌<◌, ◌≤◌, ◌^◌, Bool, true, false, List, [], ◌∷◌, ◌++◌, length, Some, refl, ap, ◌∙◌, arith}
use Rattle.std.specs.Prelude.{pos, negsuc, ◌≤ℤ◌}
use Rattle.std.specs.Fmt.{decimal}
use Rattle.std.specs.List.{list_all}
use Rattle.std.proofs.lemmas.Fmt.{decimal_by_steps_wide}
use Rattle.std.proofs.lemmas.List.Folds.{list_all-append}
use Rattle.std.proofs.lemmas.List.{length-append}
use Rattle.std.proofs.lemmas.Int.{ints}
use Rattle.std.proofs.lemmas.Bool.Decides.{nat_tests}
use Rattle.dv_lex.specs.Literals.{digit_value}
use Rattle.dv_lex.specs.Numbers.{Number, is_decimal, value_from, negated, in_bits}
use Rattle.dv_lex.specs.Laws.Numbers.{PrintedNumbersAreRead, UnsignedPrintedNumbersAreRead}

-- ---- digits

-- one more digit behind
value_push : (base v b : ℕ) (ds : List ℕ) → value_from base v (ds ++ b ∷ []) ≡ value_from base v ds * base + digit_value b
unfolding value_from
value_push base v b [] = refl
value_push base v b (d ∷ ds) = value_push base (v * base + digit_value d) b ds

-- one digit alone
one_digit : (base b : ℕ) → value_from base 0 (b ∷ []) ≡ digit_value b
unfolding value_from
one_digit base b = omega arith

-- the digit that is printed of a number below ten
decimal_digit : (n : ℕ) → n < 10 → (is_decimal (48 + n) ≡ true) × (digit_value (48 + n) ≡ n)
decimal_digit n h = (grind (arith, nat_tests), grind (arith, nat_tests))

-- decimal digits of this value
record Writes (n : ℕ) (ds : List ℕ) : Type 0 where
  some : 0 < length ds
  digits : list_all is_decimal ds ≡ true
  value : value_from 10 0 ds ≡ n

-- a number below ten is one digit
writes_one : (n : ℕ) → n < 10 → Writes n ((48 + n) ∷ [])
writes_one n h =
    let d = decimal_digit n h in
    record { some = omega arith; digits = rw d.0 refl; value = one_digit 10 (48 + n) ∙ d.1 }

-- another is the digits of its tenth, and one more
writes_more : (n : ℕ) (ds : List ℕ) → 10 ≤ n → Writes (n / 10) ds → Writes n (ds ++ ((48 + n % 10) ∷ []))
writes_more n ds h w =
    let small : n % 10 < 10 = omega arith in
    let d = decimal_digit (n % 10) small in
    record {
      some = rw length-append (omega (arith, w.some));
      digits = rw (list_all-append, w.digits, d.0) refl;
      value = value_push 10 0 (48 + n % 10) ds ∙ (let v = w.value in let e = d.1 in omega arith);
    }

-- what is printed of a number are digits of this value
writes : (n : ℕ) → n < 10 ^ 64 → Writes n (decimal n)
writes n h = decimal_by_steps_wide Writes writes_one writes_more n h

-- ---- numbers

-- the number that a print with a suffix spells
printed : Bool → ℕ → List ℕ → Number
printed negative v w = record { negative = negative; hexadecimal = false; digits = decimal v; suffix = w }

-- below the limit it fits
positive_fits : (bits v : ℕ) (w : List ℕ) → value_from 10 0 (decimal v) ≡ v → v < 2 ^ (bits - 1) → in_bits bits (printed false v w) ≡ Some (pos v)
unfolding printed
positive_fits bits v w e h = rw e (grind (arith, nat_tests))

pub unsigned_read : UnsignedPrintedNumbersAreRead
unfolding printed
unsigned_read v w h s =
    let d = writes v h in
    (printed false v w, record { spelled = refl; some = d.some; digits = d.digits; suffix = s }, ap pos d.value, λ bits small. positive_fits bits v w d.value small)

-- a number that isn't below the least has no greater magnitude
above_negated : (limit v : ℕ) → negated limit ≤ℤ negsuc v → suc v ≤ limit
above_negated zero v h = absurd (omega (arith, ints))
above_negated (suc limit) v h = omega (arith, ints)

-- down to the least it fits
negative_fits : (bits v : ℕ) (w : List ℕ) → value_from 10 0 (decimal (suc v)) ≡ suc v → suc v ≤ 2 ^ (bits - 1) → in_bits bits (printed true (suc v) w) ≡ Some (negsuc v)
unfolding printed
negative_fits bits v w e h = rw e (grind (arith, nat_tests))

pub signed_read : PrintedNumbersAreRead
unfolding printed
signed_read (pos v) w h s =
    let d = writes v h in (
      printed false v w,
      record { spelled = refl; some = d.some; digits = d.digits; suffix = s },
      ap pos d.value,
      λ bits range. positive_fits bits v w d.value (let r = range.1 in omega (arith, ints)),
    )
signed_read (negsuc v) w h s =
    let d = writes (suc v) h in (
      printed true (suc v) w,
      record { spelled = refl; some = d.some; digits = d.digits; suffix = s },
      ap negated d.value,
      λ bits range. negative_fits bits v w d.value (above_negated (2 ^ (bits - 1)) v range.0),
    )
