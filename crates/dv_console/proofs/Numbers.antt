-- Texts that are numbers, as they are printed and as std reads them.
use Rattle.std.proofs.Common.{◌≡◌, ℕ, ◌^◌, ◌<◌, ◌≤◌, Bool, true, false, List, Option, Some, None, Result, Ok, Err, bytes_eq, nat_lt, if◌then◌else◌, sym, ap, ◌∙◌, subst, refl, ◌⊎◌, inl, inr, ⊎_elim, arith}
use Rattle.std.specs.Prelude.{decimal, option_and_then}
use Rattle.std.specs.Result.{result_ok}
use Rattle.std.specs.Str.Parse.{ParsesUnsigned, digits_value}
use Rattle.std.proofs.lemmas.Bool.{cases_lt}
use Rattle.std.proofs.lemmas.Bool.Decides.{nat_tests}
use Rattle.std.proofs.lemmas.Slice.Eq.{bytes_eq-Decides}
use Rattle.std.proofs.lemmas.Str.Parse.{numerals_by_value, tells_digits}
use Rattle.std.proofs.lemmas.Fmt.{parse-decimal, digits_value-decimal}
use Rattle.dv_console.specs.Words.{number_in}

-- numbers of 64 bits
abbrev pub below : ℕ → Option ℕ
below n = if nat_lt n (2 ^ 64) then Some n else None

-- the number of 64 bits that a text is
abbrev pub small_in : List ℕ → Option ℕ
small_in text = option_and_then below (number_in text)

below_at : (n : ℕ) → n < 2 ^ 64 → below n ≡ Some n
below_at n h = grind (arith, nat_tests)

below_past : (n : ℕ) → 2 ^ 64 ≤ n → below n ≡ None
below_past n h = grind (arith, nat_tests)

-- a text prints a number
abbrev Is : List ℕ → ℕ → Type 0
Is text n = (n < 2 ^ 64) × (decimal n ≡ text)

tested : (b : Bool) (n : ℕ) → (option_and_then below (if b then Some n else None) ≡ None) ⊎ ((b ≡ true) × (n < 2 ^ 64))
tested false n = inl refl
tested true n = ⊎_elim (λ lt. inr (refl, lt)) (λ le. inl (below_past n le)) (cases_lt n (2 ^ 64))

-- a text that is no number of 64 bits, or prints one
cases : (text : List ℕ) → (small_in text ≡ None) ⊎ Is text (digits_value 10 text)
cases text = ⊎_elim (λ e. inl e) (λ h. inr (h.1, (bytes_eq-Decides _ _).0 h.0)) (tested (bytes_eq (decimal (digits_value 10 text)) text) (digits_value 10 text))

printed_is : (text : List ℕ) (n : ℕ) → n < 2 ^ 64 → decimal n ≡ text → small_in text ≡ Some n
printed_is text n small e =
    let v : digits_value 10 text ≡ n = subst (λ t. digits_value 10 t ≡ n) e (digits_value-decimal (numerals_by_value _ tells_digits) n small) in
    let b : bytes_eq (decimal (digits_value 10 text)) text ≡ true = (bytes_eq-Decides _ _).1 (ap decimal v ∙ e) in
    ap (λ x. option_and_then below (if x then Some (digits_value 10 text) else None)) b ∙ ap below v ∙ below_at n small

module _ {E : Type 0} (text : List ℕ) (r : Result ℕ E) (h : ParsesUnsigned 64 10 text r) where
  -- std reads what it prints
  reads : Is text (digits_value 10 text) → result_ok r ≡ Some (digits_value 10 text)
  reads p = ap result_ok (parse-decimal 64 _ text r p.0 p.0 (sym p.1) h)

  pub unread : result_ok r ≡ None → small_in text ≡ None
  unread is = ⊎_elim (λ s. s) (λ p. absurd (let o = reads p in cc)) (cases text)

  -- std reads a number that is printed otherwise
  pub misread : (n : ℕ) → result_ok r ≡ Some n → bytes_eq (decimal n) text ≡ false → small_in text ≡ None
  misread n is ne =
      ⊎_elim (λ s. s)
      (λ p. absurd (let o = reads p in
      let m : n ≡ digits_value 10 text = cc in
      let t : bytes_eq (decimal n) text ≡ true = (bytes_eq-Decides _ _).1 (ap decimal m ∙ p.1) in cc))
      (cases text)

pub read : {E : Type 0} (text : List ℕ) (r : Result ℕ E) → ParsesUnsigned 64 10 text r → (n : ℕ) → result_ok r ≡ Some n → bytes_eq (decimal n) text ≡ true → small_in text ≡ Some n
read text (Ok m) h n is eq = let e : m ≡ n = cc in printed_is text n (omega (arith, h.1, h.0.1, e)) ((bytes_eq-Decides _ _).0 eq)
read text (Err x) h n is eq = absurd (let different : None ≡ Some n = is in cc)
