-- What the number of a word is read as, by its value.
use Rattle.std.proofs.Common.{◌≡◌, ℕ, zero, suc, ◌+◌, ◌-◌, ◌^◌, ◌<◌, ◌≤◌, ◌==◌, Bool, true, false, ◌&&◌, nat_eq, List, [], ◌∷◌, length, drop, slice_index_or, Bor, Option, Some, None, Result, Ok, Err, inl, inr, refl, sym, ap, ◌∙◌, arith, lit<}
use Rattle.std.specs.Prelude.{ℤ, pos, negsuc, is_some, nat_le, nat_lt, if◌then◌else◌}
use Rattle.std.specs.List.{starts_with}
use Rattle.std.proofs.lemmas.Bool.{cases_Bool, cond-false, false≢true, eqb-false, eqb-true, leb-false, ltb-false, lt-leb, ne_eqb, or_from}
use Rattle.dv_defs.specs.declared.faults.LineKind.{LineKind}
use Rattle.dv_defs.specs.declared.faults.LineKind.TheVariants.{NumberRange, Operands, TooManyRegisters}
use Rattle.dv_defs.specs.Tiling.{is_width}
use Rattle.dv_lex.specs.Numbers.{Number, Spells, IsNumber, in_bits, is_whole, magnitude, negated, signed}
use Rattle.dv_coderead.specs.declared.pieces.Piece.{Piece as CodePiece}
use Rattle.dv_coderead.specs.declared.pieces.Piece.TheVariants as code
use Rattle.dv_coderead.specs.Words.{begins_with, fitting, literal_in, number_in, number_of, unsigned_in}
use Rattle.dv_coderead.specs.Pieces.{pieces_in}
use Rattle.dv_coderead.specs.BodyLines.{begins_with_number, by_value, count_from, count_in, width_from, width_in}
use Rattle.dv_coderead.proofs.Spelling.{read, spelled}

-- ---- whether a word spells a number

unspelled_by : (w : List ℕ) (o : Option Number) → number_in w ≡ o → (IsNumber w → ⊥) → o ≡ None
unspelled_by w None e never = refl
unspelled_by w (Some n) e never = absurd (never (n, spelled w n e))

-- a text that spells no number is read as none
unspelled : (w : List ℕ) → (IsNumber w → ⊥) → number_in w ≡ None
unspelled w never = unspelled_by w (number_in w) refl never

-- a test for numbers tells whether one is read
pub number_found : (w : List ℕ) (t : Bool) → (t ≡ true → IsNumber w) → (IsNumber w → t ≡ true) → t ≡ is_some (number_in w)
number_found w true is of = let n = is refl in sym (ap is_some (read w n.0 n.1))
number_found w false is of = sym (ap is_some (unspelled w (λ n. false≢true (of n))))

-- pieces whose first is a word begin with a number where that is one
pub begins_with_word : (ps : List CodePiece) (p : CodePiece) (w : Bor (List ℕ)) → 1 ≤ length ps → p ≡ slice_index_or ps 0 p → p ≡ code.Word w
    → begins_with_number (pieces_in ps) ≡ is_some (number_in w.now)
begins_with_word [] p w some is e = absurd (omega arith)
begins_with_word (q ∷ ps) p w some is e = let same : q ≡ code.Word w = cc in ap (λ x. begins_with_number (pieces_in (x ∷ ps))) same

-- ---- whether it is negative

some_by : (t : Bool) (m n : Number) → (if t then Some m else None) ≡ Some n → m ≡ n
some_by true m n e = cc
some_by false m n e = absurd (cc)

unsigned_negative : (negative : Bool) (w : List ℕ) (n : Number) → unsigned_in negative w ≡ Some n → n.negative ≡ negative
unsigned_negative negative w n e = ap (λ (m : Number). m.negative) (sym (some_by _ _ n e))

-- a number is negative where its text begins with a minus
pub negative_read : (w : List ℕ) (n : Number) → number_in w ≡ Some n → n.negative ≡ begins_with 45 w
unfolding number_in
negative_read w n e = unsigned_negative (begins_with 45 w) (if begins_with 45 w then drop 1 w else w) n e

-- two tests of the first byte are one
pub minus_begins : (w : List ℕ) → starts_with nat_eq w (45 ∷ []) ≡ begins_with 45 w
minus_begins [] = refl
minus_begins (c ∷ cs) =
    elim (cases_Bool (c == 45)) [
      | inl is ↦ let e = eqb-true c 45 is in rw e refl
      | inr other ↦ ap (λ t. t && true) (ne_eqb 45 c (λ e. eqb-false c 45 other (sym e))) ∙ sym other
    ]

-- ---- the value of a number in so many bits

-- in so many bits a number is its value, or that has more bits
pub data IsIn (bits : ℕ) (n : Number) (o : Option ℤ) : Type 0 where
  Whole : o ≡ Some (signed n) → IsIn bits n o
  Beyond : 2 ^ (bits - 1) ≤ magnitude n → o ≡ None → IsIn bits n o

-- where no highest bit of a hexadecimal number is a sign
module _ (bits : ℕ) (no : is_whole bits ≡ false) (n : Number) where
  minus_in : n.negative ≡ true → IsIn bits n (in_bits bits n)
  minus_in minus =
      elim (cases_Bool (nat_le (magnitude n) (2 ^ (bits - 1)))) [
        | inl le ↦ Whole (rw (minus, le) refl)
        | inr gt ↦ let more = leb-false _ _ gt in Beyond (omega arith) (rw (minus, gt) refl)
      ]

  plus_in : n.negative ≡ false → IsIn bits n (in_bits bits n)
  plus_in plus =
      elim (cases_Bool (nat_lt (magnitude n) (2 ^ (bits - 1)))) [
        | inl lt ↦ Whole (rw (plus, lt) refl)
        | inr ge ↦
            let more = ltb-false _ _ ge in
            Beyond (omega arith) (elim (cases_Bool n.hexadecimal) [ inl is ↦ rw (plus, ge, is, no) refl | inr other ↦ rw (plus, ge, other) refl ])
      ]

  pub is_in : IsIn bits n (in_bits bits n)
  is_in = elim (cases_Bool n.negative) [ inl minus ↦ minus_in minus | inr plus ↦ plus_in plus ]

-- the value that was found
value_by : (bits : ℕ) (n : Number) (z : ℤ) (o : Option ℤ) → IsIn bits n o → o ≡ Some z → z ≡ signed n
value_by bits n z o (Whole e) f = cc
value_by bits n z o (Beyond more e) f = absurd (cc)

-- where none was
beyond_by : (bits : ℕ) (n : Number) (o : Option ℤ) → IsIn bits n o → o ≡ None → 2 ^ (bits - 1) ≤ magnitude n
beyond_by bits n o (Whole e) f = absurd (cc)
beyond_by bits n o (Beyond more e) f = more

-- ---- values of either sign

-- the value by its sign
signed_minus : (n : Number) → n.negative ≡ true → signed n ≡ negated (magnitude n)
signed_minus n minus = rw minus refl

signed_plus : (n : Number) → n.negative ≡ false → signed n ≡ pos (magnitude n)
signed_plus n plus = rw plus refl

-- what is read of a negative value
negated_read : {A : Type 0} (f : ℤ → Result A LineKind) (r : Result A LineKind) (m : ℕ) → 0 < m → ((k : ℕ) → m ≡ suc k → f (negsuc k) ≡ r) → f (negated m) ≡ r
negated_read f r zero some below = absurd (omega arith)
negated_read f r (suc k) some below = below k refl

-- ---- counts of registers, of which the code reads 48 bits

module _ (more : ℕ) (w : List ℕ) where
  -- no number
  pub count_unspelled : (IsNumber w → ⊥) → count_in more w ≡ Err Operands
  unfolding count_in
  count_unspelled never = ap (by_value (count_from more)) (unspelled w never)

  module _ (n : Number) (is : Spells w n) where
    count_read : count_in more w ≡ count_from more (signed n)
    unfolding count_in
    count_read = ap (by_value (count_from more)) (read w n is)

    -- a number of 48 bits
    pub count_within : (z : ℤ) → in_bits 48 n ≡ Some z → count_in more w ≡ count_from more z
    count_within z e = count_read ∙ ap (count_from more) (sym (value_by 48 n z _ (is_in 48 refl n) e))

    has_minus : (t : Bool) → starts_with nat_eq w (45 ∷ []) ≡ t → n.negative ≡ t
    has_minus t e = negative_read w n (read w n is) ∙ sym (minus_begins w) ∙ e

    -- a number that has more, with a minus
    pub count_below : in_bits 48 n ≡ None → starts_with nat_eq w (45 ∷ []) ≡ true → count_in more w ≡ Err NumberRange
    count_below e minus =
        let large : 2 ^ 47 ≤ magnitude n = beyond_by 48 n _ (is_in 48 refl n) e in
        count_read ∙ ap (count_from more) (signed_minus n (has_minus true minus)) ∙ negated_read (count_from more) _ (magnitude n) (omega arith) (λ k e. refl)

    -- and without
    pub count_above : in_bits 48 n ≡ None → starts_with nat_eq w (45 ∷ []) ≡ false → count_in more w ≡ Err TooManyRegisters
    count_above e plus =
        let large : 2 ^ 47 ≤ magnitude n = beyond_by 48 n _ (is_in 48 refl n) e in
        count_read ∙ ap (count_from more) (signed_plus n (has_minus false plus)) ∙ cond-false (nat_le (magnitude n + more) 256) _ _ (lt-leb _ _ (omega arith))

-- ---- numbers with a value that fits

-- no value that has more bits is read
pub record HasBits {A : Type 0} (f : ℤ → Result A LineKind) (bits : ℕ) : Type 0 where
  pub no : is_whole bits ≡ false
  pub some : 0 < 2 ^ (bits - 1)
  pub above : (m : ℕ) → 2 ^ (bits - 1) ≤ m → f (pos m) ≡ Err NumberRange
  pub below : (m : ℕ) → 2 ^ (bits - 1) ≤ suc m → f (negsuc m) ≡ Err NumberRange

module _ {A : Type 0} (f : ℤ → Result A LineKind) (bits : ℕ) (has : HasBits f bits) where
  far_by : (n : Number) (negative : Bool) → n.negative ≡ negative → 2 ^ (bits - 1) ≤ magnitude n → f (signed n) ≡ Err NumberRange
  far_by n true minus large =
      ap f (signed_minus n minus) ∙ negated_read f _ (magnitude n) (omega (arith, has.some)) (λ k e. has.below k (omega arith))
  far_by n false plus large = ap f (signed_plus n plus) ∙ has.above (magnitude n) large

  -- what was found in so many bits is the value
  within_of : (n : Number) (z : ℤ) (o : Option ℤ) → IsIn bits n o → fitting o ≡ Ok z → f (signed n) ≡ f z
  within_of n z o (Whole e) is = let same : z ≡ signed n = cc in ap f (sym same)
  within_of n z o (Beyond more e) is = absurd (cc)

  -- where nothing was found, the value is refused
  refused_of : (n : Number) (k : LineKind) (o : Option ℤ) → IsIn bits n o → fitting o ≡ Err k → f (signed n) ≡ Err k
  refused_of n k o (Whole e) is = absurd (cc)
  refused_of n k o (Beyond more e) is = let same : k ≡ NumberRange = cc in far_by n n.negative refl more ∙ ap Err (sym same)

  -- what the code reads by is what is read
  pub within : (o : Option Number) (z : ℤ) → number_of bits o ≡ Ok z → by_value f o ≡ f z
  within None z is = absurd (cc)
  within (Some n) z is = within_of n z _ (is_in bits has.no n) is

  -- and what it refuses is refused
  pub refused : (o : Option Number) (k : LineKind) → number_of bits o ≡ Err k → by_value f o ≡ Err k
  refused None k is = let same : k ≡ Operands = cc in ap Err (sym same)
  refused (Some n) k is = refused_of n k _ (is_in bits has.no n) is

-- ---- widths of elements, of which the code reads 33 bits

other : (m k : ℕ) → 2 ^ 32 ≤ m → k < 2 ^ 32 → nat_eq m k ≡ false
other m k large small = ne_eqb m k (λ e. omega arith)

no_width : (m : ℕ) → 2 ^ 32 ≤ m → is_width m ≡ false
no_width m large =
    let below = λ (k : ℕ) (small : k < 2 ^ 32). other m k large small in
    or_from _ _ (or_from _ _ (or_from _ _ (below 1 (lit< tt)) (below 2 (lit< tt))) (below 4 (lit< tt))) (below 8 (lit< tt))

width_bits : HasBits width_from 33
width_bits = record {
  no = refl;
  some = omega arith;
  above = λ m large. cond-false (is_width m) _ _ (no_width m large);
  below = λ m large. refl;
}

pub width_within : (w : List ℕ) (z : ℤ) → literal_in 33 w ≡ Ok z → width_in w ≡ width_from z
unfolding literal_in width_in
width_within w z is = within width_from 33 width_bits (number_in w) z is

pub width_refused : (w : List ℕ) (k : LineKind) → literal_in 33 w ≡ Err k → width_in w ≡ Err k
unfolding literal_in width_in
width_refused w k is = refused width_from 33 width_bits (number_in w) k is
