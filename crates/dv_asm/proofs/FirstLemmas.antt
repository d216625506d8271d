-- Turns of loops that look for the first line, or for a number at which a test passes.
use Rattle.std.proofs.Common.{◌≡◌, ℕ, zero, suc, ◌+◌, ◌<◌, ◌||◌, Bool, true, false, Option, Some, None, ◌⊎◌, refl, sym, ap, ◌∙◌, add-one, arith, ◌≤◌, ⊎_elim}
use Rattle.std.specs.Prelude.{min}
use Rattle.std.specs.Option.{unwrap_or}
use Rattle.std.proofs.lemmas.Bool.Decides.{nat_tests}
use Rattle.dv_asm.specs.First.{first_line, earlier, when, any_below}

pub first_line_more : (f : ℕ → Option ℕ) (k : ℕ) → first_line f (k + 1) ≡ earlier (first_line f k) (f k)
first_line_more f k = rw add-one refl

less_or_same : (i n : ℕ) → i < suc n → (i < n) ⊎ (i ≡ n)
less_or_same i n within = grind arith

pub any_below_more : (test : ℕ → Bool) (k : ℕ) → any_below test (k + 1) ≡ any_below test k || test k
any_below_more test k = rw add-one refl

pub any_below_found : (test : ℕ → Bool) (n k : ℕ) → test k ≡ true → k < n → any_below test n ≡ true
any_below_found test zero k here within = absurd (omega arith)
any_below_found test (suc n) k here within =
    ⊎_elim (λ less. rw (any_below_found test n k here less) refl) (λ same. let there : test n ≡ true = sym (ap test same) ∙ here in grind arith) (less_or_same k n within)

earlier_none : (a b : Option ℕ) → earlier a b ≡ None → (a ≡ None) × (b ≡ None)
earlier_none None b none = (refl, none)
earlier_none (Some a) None none = absurd (cc)
earlier_none (Some a) (Some b) none = absurd (cc)

-- no line is found: a function gives none of the numbers below the bound
pub first_line_none : (f : ℕ → Option ℕ) (n k : ℕ) → first_line f n ≡ None → k < n → f k ≡ None
first_line_none f zero k none within = absurd (omega arith)
first_line_none f (suc n) k none within =
    let parts = earlier_none (first_line f n) (f n) none in
    ⊎_elim (λ less. first_line_none f n k parts.0 less) (λ same. ap f same ∙ parts.1) (less_or_same k n within)

pub not_when : {Y : Type 0} (b : Bool) (y : Y) → when b y ≡ None → b ≡ false
not_when true y none = absurd (cc)
not_when false y none = refl

-- a line is found where a function gives one
pub first_line_some : (f : ℕ → Option ℕ) (n k own line : ℕ) → f k ≡ Some own → k < n → line ≡ unwrap_or (first_line f n) own → first_line f n ≡ Some line
first_line_some f n k own line here within is = at (first_line f n) refl is
  where
    at : (o : Option ℕ) → first_line f n ≡ o → line ≡ unwrap_or o own → first_line f n ≡ Some line
    at None none is = let nothing = first_line_none f n k none within in absurd (cc)
    at (Some other) found is = found ∙ ap (λ (x : ℕ). Some x) (sym is)

min_first : (a b : ℕ) → a ≤ b → min a b ≡ a
min_first a b less = grind (arith, nat_tests)

earlier_stays : (b : Bool) (a m : ℕ) → a ≤ m → earlier (Some a) (when b m) ≡ Some a
earlier_stays true a m less = ap (λ (x : ℕ). Some x) (min_first a m less)
earlier_stays false a m less = refl

-- the first place's line is the first one where no later place has an earlier one
pub first_line_least : (test : ℕ → Bool) (line_of : ℕ → ℕ) (n k : ℕ) → first_line (λ j. when (test j) (line_of j)) k ≡ None → test k ≡ true → k < n → ((j : ℕ) → k ≤ j → j < n → line_of k ≤ line_of j) → first_line (λ j. when (test j) (line_of j)) n ≡ Some (line_of k)
first_line_least test line_of zero k none here within least = absurd (omega arith)
first_line_least test line_of (suc n) k none here within least =
    let f : ℕ → Option ℕ = λ j. when (test j) (line_of j) in
    ⊎_elim
    (λ less.
    ap (λ (x : Option ℕ). earlier x (f n)) (first_line_least test line_of n k none here less (λ j from below. least j from (omega arith))) ∙
    earlier_stays (test n) (line_of k) (line_of n) (least n (omega arith) (omega arith)))
    (λ same.
    (λ i. earlier (first_line f (sym same i)) (f (sym same i))) ∙ (ap (λ (x : Option ℕ). earlier x (f k)) none ∙ ap (λ (b : Bool). when b (line_of k)) here))
    (less_or_same k n within)
