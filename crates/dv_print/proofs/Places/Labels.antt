-- No two addresses have the same label.
use Rattle.std.proofs.Common.{◌≡◌, ℕ, ◌+◌, ◌*◌, ◌/◌, ◌%◌, ◌<◌, ◌^◌, Bool, true, false, nat_lt, List, [], ◌∷◌, ◌++◌, length, if◌then◌else◌, refl, ap, arith}
use Rattle.std.proofs.lemmas.Bool.Decides.{nat_tests}
use Rattle.dv_names.specs.Written.{digit, hexadecimal}
use Rattle.dv_print.specs.Numbers.{label_name}

same_digit : (m n : ℕ) → m < 16 → n < 16 → digit m ≡ digit n → m ≡ n
same_digit m n p q e = grind (arith, nat_tests)

-- a number of 16 bits by its digits
by_digits : (n : ℕ) → n < 65536 → n ≡ n / 4096 % 16 * 4096 + n / 256 % 16 * 256 + n / 16 % 16 * 16 + n % 16
by_digits n h = omega arith

digit_of : (m n : ℕ) → digit (m % 16) ≡ digit (n % 16) → m % 16 ≡ n % 16
digit_of m n e = same_digit (m % 16) (n % 16) (omega arith) (omega arith) e

pub same_hexadecimal : (m n : ℕ) → m < 65536 → n < 65536 → hexadecimal m ≡ hexadecimal n → m ≡ n
same_hexadecimal m n p q e =
    let a = digit_of (m / 4096) (n / 4096) (cc) in
    let b = digit_of (m / 256) (n / 256) (cc) in
    let c = digit_of (m / 16) (n / 16) (cc) in
    let d = digit_of m n (cc) in
    omega (arith, by_digits m p, by_digits n q, a, b, c, d)

parts_of : (a b c d : List ℕ) → length a ≡ length c → a ++ b ≡ c ++ d → (a ≡ c) × (b ≡ d)
parts_of [] b [] d h e = (refl, e)
parts_of [] b (x ∷ c) d h e = absurd (omega arith)
parts_of (y ∷ a) b [] d h e = absurd (omega arith)
parts_of (y ∷ a) b (x ∷ c) d h e =
    let rest = parts_of a b c d (omega arith) (cc) in
    let first : y ≡ x = cc in
    (cc (first, rest.0), rest.1)

abbrev text_if : Bool → ℕ → List ℕ
text_if b a = if b then hexadecimal a else hexadecimal (a / 65536) ++ hexadecimal (a % 65536)

same_text : (b c : Bool) (m n : ℕ) → nat_lt m 65536 ≡ b → nat_lt n 65536 ≡ c → m < 2 ^ 32 → n < 2 ^ 32 → text_if b m ≡ text_if c n → m ≡ n
same_text true true m n s t p q e = same_hexadecimal m n (grind (arith, nat_tests)) (grind (arith, nat_tests)) e
same_text true false m n s t p q e = absurd (let h : 4 ≡ 8 = ap length e in omega (arith, h))
same_text false true m n s t p q e = absurd (let h : 8 ≡ 4 = ap length e in omega (arith, h))
same_text false false m n s t p q e =
    let halves = parts_of (hexadecimal (m / 65536)) (hexadecimal (m % 65536)) (hexadecimal (n / 65536)) (hexadecimal (n % 65536)) refl e in
    let high = same_hexadecimal (m / 65536) (n / 65536) (omega arith) (omega arith) halves.0 in
    let low = same_hexadecimal (m % 65536) (n % 65536) (omega arith) (omega arith) halves.1 in
    omega (arith, high, low)

pub labels_are_distinct : (a b : ℕ) → a < 2 ^ 32 → b < 2 ^ 32 → label_name a ≡ label_name b → a ≡ b
labels_are_distinct a b p q e = same_text (nat_lt a 65536) (nat_lt b 65536) a b refl refl p q (cc)
