-- What a word is read as, where a register is due.
use Rattle.std.proofs.Common.{◌≡◌, ℕ, ◌+◌, ◌-◌, ◌^◌, ◌<◌, ◌≤◌, ◌==◌, Bool, true, false, List, [], ◌∷◌, length, Option, Some, None, Result, Ok, Err, inl, inr, refl, sym, ap, ◌∙◌, subst, arith, append-nil, ◌*◌, ◌&&◌, ◌++◌, take}
use Rattle.std.specs.Prelude.{ℤ, pos, negsuc, ◌+ℤ◌, ◌-ℤ◌, nat_lt, if◌then◌else◌, slice_index}
use Rattle.std.specs.List.{list_all}
use Rattle.std.proofs.lemmas.Bool.{and_parts, cases_lt, cond-true, cond-false, lt-ltb, le-ltb, ltb-true, ne_eqb}
use Rattle.std.proofs.lemmas.Int.{ints}
use Rattle.std.proofs.lemmas.List.{take-append-drop}
use Rattle.std.proofs.lemmas.List.Folds.{list_all-append}
use Rattle.std.proofs.lemmas.Bool.Decides.{nat_tests}
use Rattle.dv_defs.specs.declared.faults.LineKind.{LineKind}
use Rattle.dv_defs.specs.declared.faults.LineKind.TheVariants.{Operands, RegisterRange}
use Rattle.dv_lex.specs.Numbers.{Number, Spells, in_bits, is_decimal, value_from}
use Rattle.dv_lex.specs.Literals.{digit_value}
use Rattle.dv_coderead.specs.declared.words.Frame.{Frame}
use Rattle.dv_coderead.specs.Words.{argument_of, decimal_in, register_in, register_of}
use Rattle.dv_coderead.specs.WordParts.{are_decimal, register_at, short_decimal, few_tens}
use Rattle.dv_coderead.proofs.Spelling.{last}

-- ---- digits

abbrev pub decimal_number : List ℕ → Number
decimal_number ds = record { negative = false; hexadecimal = false; digits = ds; suffix = [] }

pub decimal_spells : (ds : List ℕ) → are_decimal ds ≡ true → Spells ds (decimal_number ds)
decimal_spells ds are =
    let p = and_parts (nat_lt 0 (length ds)) (list_all is_decimal ds) are in
    record { spelled = sym (append-nil ds); some = ltb-true 0 (length ds) p.0; digits = p.1; suffix = refl }

abbrev pub ranged : Option ℤ → Result ℤ LineKind
ranged None = Err RegisterRange
ranged (Some z) = Ok z

ranged_by : (v : ℕ) (t : Bool) → (if t then Ok (pos v) else Err RegisterRange) ≡ ranged (if t then Some (pos v) else None)
ranged_by v true = refl
ranged_by v false = refl

-- digits are read as their number in 48 bits, if it fits
pub short_read : (ds : List ℕ) → are_decimal ds ≡ true → short_decimal (decimal_in ds) ≡ ranged (in_bits 48 (decimal_number ds))
short_read ds are = ap short_decimal (cond-true (are_decimal ds) (Some (value_from 10 0 ds)) None are) ∙ ranged_by (value_from 10 0 ds) (nat_lt (value_from 10 0 ds) (2 ^ 47))

-- other bytes are no number
pub not_read : (ds : List ℕ) → are_decimal ds ≡ false → short_decimal (decimal_in ds) ≡ Err Operands
not_read ds other = ap short_decimal (cond-false (are_decimal ds) (Some (value_from 10 0 ds)) None other)

-- ---- a number below 2^47, and any other

data IsShort (n : ℕ) : Result ℤ LineKind → Type 0 where
  Below : n < 2 ^ 47 → IsShort n (Ok (pos n))
  Above : 2 ^ 47 ≤ n → IsShort n (Err RegisterRange)

is_short : (n : ℕ) → IsShort n (short_decimal (Some n))
is_short n =
    elim (cases_lt n (2 ^ 47)) [
      | inl lt ↦ subst (IsShort n) (sym (cond-true (nat_lt n (2 ^ 47)) (Ok (pos n)) (Err RegisterRange) (lt-ltb n (2 ^ 47) lt))) (Below lt)
      | inr le ↦ subst (IsShort n) (sym (cond-false (nat_lt n (2 ^ 47)) (Ok (pos n)) (Err RegisterRange) (le-ltb n (2 ^ 47) le))) (Above le)
    ]

-- the number that was read
ok_by : (n : ℕ) (z : ℤ) (r : Result ℤ LineKind) → IsShort n r → r ≡ Ok z → z ≡ pos n
ok_by n z r (Below lt) e = cc
ok_by n z r (Above le) e = absurd (cc)

-- a number that wasn't
err_by : (n : ℕ) (k : LineKind) (r : Result ℤ LineKind) → IsShort n r → r ≡ Err k → (2 ^ 47 ≤ n) × (k ≡ RegisterRange)
err_by n k r (Below lt) e = absurd (cc)
err_by n k r (Above le) e = let same : k ≡ RegisterRange = cc in (le, same)

-- what was read is small
small_by : (n : ℕ) (z : ℤ) (r : Result ℤ LineKind) → IsShort n r → r ≡ Ok z → n < 2 ^ 47
small_by n z r (Below lt) e = lt
small_by n z r (Above le) e = absurd (cc)

pub record IsSmall (z : ℤ) : Type 0 where
  pub number : ℕ
  pub is : z ≡ pos number
  pub small : number < 2 ^ 47

pub short_small : (o : Option ℕ) (z : ℤ) → short_decimal o ≡ Ok z → IsSmall z
short_small None z e = absurd (cc)
short_small (Some n) z e = record { number = n; is = ok_by n z _ (is_short n) e; small = small_by n z _ (is_short n) e }

-- ---- registers of numbers

-- the registers begin at 0, and no number is so large
far : (n : ℕ) → 65536 ≤ n → register_of (Some n) ≡ Err RegisterRange
far n le = cond-false (nat_lt n 65536) (Ok n) (Err RegisterRange) (le-ltb n 65536 le)

pub register_read : (o : Option ℕ) (z : ℤ) → short_decimal o ≡ Ok z → register_at z ≡ register_of o
register_read None z e = absurd (cc)
register_read (Some n) z e = ap register_at (ok_by n z _ (is_short n) e)

pub register_refused : (o : Option ℕ) (k : LineKind) → short_decimal o ≡ Err k → register_of o ≡ Err k
register_refused None k e = cc
register_refused (Some n) k e = let p = err_by n k _ (is_short n) e in far n (omega (arith, p.0)) ∙ ap Err (sym p.1)

-- ---- registers of arguments

abbrev behind : Frame → ℕ → Result ℕ LineKind
behind frame n = register_of (Some (frame.registers + n - frame.arguments))

-- there is a register
argument_here : (frame : Frame) (n : ℕ) → frame.arguments ≤ frame.registers + n → argument_of frame (Some n) ≡ behind frame n
argument_here frame n le = cond-false (nat_lt (frame.registers + n) frame.arguments) (Err RegisterRange) (behind frame n) (le-ltb _ _ le)

-- there is none
argument_before : (frame : Frame) (n : ℕ) → frame.registers + n < frame.arguments → argument_of frame (Some n) ≡ Err RegisterRange
argument_before frame n lt = cond-true (nat_lt (frame.registers + n) frame.arguments) (Err RegisterRange) (behind frame n) (lt-ltb _ _ lt)

argument_number : (frame : Frame) (n : ℕ) → register_at (pos n +ℤ pos frame.registers -ℤ pos frame.arguments) ≡ argument_of frame (Some n)
argument_number frame n =
    let r = frame.registers in
    let a = frame.arguments in
    elim (cases_lt (r + n) a) [
      | inl lt ↦ let e : pos n +ℤ pos r -ℤ pos a ≡ negsuc (a - (r + n) - 1) = omega (arith, ints) in ap register_at e ∙ sym (argument_before frame n lt)
      | inr le ↦ let e : pos n +ℤ pos r -ℤ pos a ≡ pos (r + n - a) = omega (arith, ints) in ap register_at e ∙ sym (argument_here frame n le)
    ]

-- the number of digits, by those in front of the last
pub record IsTens (ds : List ℕ) (tens unit : ℕ) : Type 0 where
  pub are : are_decimal ds ≡ true
  pub front : list_all is_decimal (take (length ds - 1) ds) ≡ true
  pub digit : 48 ≤ slice_index ds (length ds - 1)
  pub one : unit < 10
  pub whole : value_from 10 0 ds ≡ tens * 10 + unit

pub value_push : (v b : ℕ) (ds : List ℕ) → value_from 10 v (ds ++ b ∷ []) ≡ value_from 10 v ds * 10 + digit_value b
unfolding value_from
value_push v b [] = refl
value_push v b (d ∷ ds) = value_push (v * 10 + digit_value d) b ds

decimal_byte : (b : ℕ) → is_decimal b ≡ true → (48 ≤ b) × (b - 48 < 10) × (digit_value b ≡ b - 48)
decimal_byte b is = (grind (arith, nat_tests), grind (arith, nat_tests), grind (arith, nat_tests))

split_last : (ds : List ℕ) → 0 < length ds → ds ≡ take (length ds - 1) ds ++ slice_index ds (length ds - 1) ∷ []
split_last ds some = sym (take-append-drop (length ds - 1) ds) ∙ ap (λ l. take (length ds - 1) ds ++ l) (last ds (length ds - 1) (omega arith))

pub is_tens : (ds : List ℕ) → are_decimal ds ≡ true → IsTens ds (value_from 10 0 (take (length ds - 1) ds)) (slice_index ds (length ds - 1) - 48)
is_tens ds are =
    let p = and_parts (nat_lt 0 (length ds)) (list_all is_decimal ds) are in
    let front = take (length ds - 1) ds in
    let b = slice_index ds (length ds - 1) in
    let split : ds ≡ front ++ b ∷ [] = split_last ds (ltb-true 0 (length ds) p.0) in
    let all : (list_all is_decimal front && list_all is_decimal (b ∷ [])) ≡ true =
    sym (list_all-append is_decimal front (b ∷ [])) ∙ ap (list_all is_decimal) (sym split) ∙ p.1 in
    let q = and_parts (list_all is_decimal front) (list_all is_decimal (b ∷ [])) all in
    let d = decimal_byte b (and_parts (is_decimal b) true q.1).0 in
    record {
      are = are;
      front = q.0;
      digit = d.0;
      one = d.1;
      whole = ap (value_from 10 0) split ∙ value_push 0 b front ∙ ap (λ x. value_from 10 0 front * 10 + x) d.2;
    }

-- no digits stand for 0
pub no_tens : (ds : List ℕ) → length ds ≡ 0 → Ok (pos 0) ≡ few_tens (value_from 10 0 ds)
unfolding value_from
no_tens [] none = refl
no_tens (d ∷ ds) none = absurd (omega arith)

-- tens are read as their number in 64 bits, if it fits
pub tens_read : (ds : List ℕ) → few_tens (value_from 10 0 ds) ≡ ranged (in_bits 64 (decimal_number ds))
tens_read ds = ranged_by (value_from 10 0 ds) (nat_lt (value_from 10 0 ds) (2 ^ 63))

-- the tens that were read
pub tens_ok : (n : ℕ) (z : ℤ) → few_tens n ≡ Ok z → (z ≡ pos n) × (n < 2 ^ 63)
tens_ok n z e =
    elim (cases_lt n (2 ^ 63)) [
      | inl lt ↦ (let same : Ok (pos n) ≡ Ok z = sym (cond-true (nat_lt n (2 ^ 63)) (Ok (pos n)) (Err RegisterRange) (lt-ltb _ _ lt)) ∙ e in cc, lt)
      | inr le ↦ absurd (let same : Err RegisterRange ≡ Ok z = sym (cond-false (nat_lt n (2 ^ 63)) (Ok (pos n)) (Err RegisterRange) (le-ltb _ _ le)) ∙ e in cc)
    ]

pub tens_err : (n : ℕ) (k : LineKind) → few_tens n ≡ Err k → (k ≡ RegisterRange) × (2 ^ 63 ≤ n)
tens_err n k e =
    elim (cases_lt n (2 ^ 63)) [
      | inl lt ↦ absurd (let same : Ok (pos n) ≡ Err k = sym (cond-true (nat_lt n (2 ^ 63)) (Ok (pos n)) (Err RegisterRange) (lt-ltb _ _ lt)) ∙ e in cc)
      | inr le ↦ (let same : Err RegisterRange ≡ Err k = sym (cond-false (nat_lt n (2 ^ 63)) (Ok (pos n)) (Err RegisterRange) (le-ltb _ _ le)) ∙ e in cc, le)
    ]

module _ (frame : Frame) (ds : List ℕ) (tens unit : ℕ) (is : IsTens ds tens unit) where
  argument_is : argument_of frame (decimal_in ds) ≡ argument_of frame (Some (value_from 10 0 ds))
  argument_is = ap (argument_of frame) (cond-true (are_decimal ds) (Some (value_from 10 0 ds)) None is.are)

  -- far behind the last register
  pub argument_behind : frame.arguments + 65536 ≤ frame.registers + (tens * 10 + unit) → argument_of frame (decimal_in ds) ≡ Err RegisterRange
  argument_behind le =
      let n = value_from 10 0 ds in
      argument_is ∙ argument_here frame n (omega (arith, le, is.whole)) ∙ far (frame.registers + n - frame.arguments) (omega (arith, le, is.whole))

  -- before the first
  pub argument_early : frame.registers + (tens * 10 + unit) < frame.arguments → argument_of frame (decimal_in ds) ≡ Err RegisterRange
  argument_early lt = argument_is ∙ argument_before frame (value_from 10 0 ds) (omega (arith, lt, is.whole))

  -- any other
  pub argument_read : (z : ℤ) → z ≡ pos (tens * 10 + unit) +ℤ pos frame.registers -ℤ pos frame.arguments → register_at z ≡ argument_of frame (decimal_in ds)
  argument_read z e =
      ap register_at (e ∙ ap (λ n. pos n +ℤ pos frame.registers -ℤ pos frame.arguments) (sym is.whole)) ∙ argument_number frame (value_from 10 0 ds) ∙ sym argument_is

-- no digits, or other bytes
pub argument_none : (frame : Frame) (ds : List ℕ) → are_decimal ds ≡ false → argument_of frame (decimal_in ds) ≡ Err Operands
argument_none frame ds other = ap (argument_of frame) (cond-false (are_decimal ds) (Some (value_from 10 0 ds)) None other)

-- ---- words

pub plain_word : (frame : Frame) (w ds : List ℕ) → w ≡ 118 ∷ ds → register_in frame w ≡ register_of (decimal_in ds)
unfolding register_in
plain_word frame w ds e = ap (register_in frame) e

pub argument_word : (frame : Frame) (w ds : List ℕ) → w ≡ 112 ∷ ds → register_in frame w ≡ argument_of frame (decimal_in ds)
unfolding register_in
argument_word frame w ds e = ap (register_in frame) e

other_by : (frame : Frame) (b : ℕ) (bs : List ℕ) → (b == 118) ≡ false → (b == 112) ≡ false → register_in frame (b ∷ bs) ≡ Err Operands
unfolding register_in
other_by frame b bs no_v no_p = rw (no_v, no_p) refl

pub other_word : (frame : Frame) (w : List ℕ) → ((ds : List ℕ) → w ≡ 118 ∷ ds → ⊥) → ((ds : List ℕ) → w ≡ 112 ∷ ds → ⊥) → register_in frame w ≡ Err Operands
unfolding register_in
other_word frame [] no_v no_p = refl
other_word frame (b ∷ bs) no_v no_p =
    other_by frame b bs (ne_eqb b 118 (λ e. no_v bs (ap (λ x. x ∷ bs) e))) (ne_eqb b 112 (λ e. no_p bs (ap (λ x. x ∷ bs) e)))
