-- The elements that fill-array-data writes, one after another.
use Rattle.std.proofs.Common.{◌≡◌, ℕ, zero, suc, ◌+◌, ◌*◌, ◌<◌, ◌≤◌, ◌++◌, List, [], ◌∷◌, length, get_or, take, drop, Bool, true, false, ℤ, refl, sym, ap, ◌∙◌, arith, length-append, append_assoc, append-nil, suc-mul}
use Rattle.std.specs.Prelude.{if◌then◌else◌}
use Rattle.dv_defs.specs.declared.names.Ty.{Ty}
use Rattle.dv_defs.specs.Numbers.{elements, hi_of, lo_of, low_first, signed_at}
use Rattle.dv_defs.specs.Types.{is_long, words_of}
use Rattle.dv_words.specs.State.{WordHeap}
use Rattle.dv_words.specs.Words.{word_of}
use Rattle.dv_words.specs.Mem.{fill_words, filled, narrowed, stored}
use Rattle.dv_mem.specs.Payloads.{number_at}
use Rattle.dv_mem.proofs.Storing.{stored_append}

-- ---- numbers

none_at : (i n : ℕ) → number_at [] i n ≡ 0
none_at i zero = refl
none_at i (suc n) = omega (arith, none_at (suc i) n)

behind : (b : ℕ) (bs : List ℕ) (i n : ℕ) → number_at (b ∷ bs) (suc i) n ≡ number_at bs i n
behind b bs i zero = refl
behind b bs i (suc n) = ap (λ (m : ℕ). get_or bs i 0 + 256 * m) (behind b bs (suc i) n)

first_number : (n : ℕ) (bs : List ℕ) → number_at bs 0 n ≡ low_first (take n bs)
first_number zero bs = refl
first_number (suc n) [] = omega (arith, none_at 1 n)
first_number (suc n) (b ∷ bs) = ap (λ (m : ℕ). b + 256 * m) (behind b bs 0 n ∙ first_number n bs)

number_drop : (d : ℕ) (bs : List ℕ) (i n : ℕ) → number_at (drop d bs) i n ≡ number_at bs (d + i) n
number_drop zero bs i n = let same : i ≡ 0 + i = omega arith in ap (λ (m : ℕ). number_at bs m n) same
number_drop (suc d) [] i n = none_at i n ∙ sym (none_at (suc d + i) n)
number_drop (suc d) (b ∷ bs) i n =
    let same : suc d + i ≡ suc (d + i) = omega arith in
    number_drop d bs i n ∙ sym (behind b bs (d + i) n) ∙ ap (λ (m : ℕ). number_at (b ∷ bs) m n) (sym same)

-- ---- elements

pub element_count : (n w : ℕ) (bs : List ℕ) → length (elements n w bs) ≡ n
element_count zero w bs = refl
element_count (suc n) w bs = ap suc (element_count n w (drop w bs))

next_element : (n w : ℕ) (bs : List ℕ) (k : ℕ) → k < n → take (suc k) (elements n w bs) ≡ take k (elements n w bs) ++ signed_at (8 * w) (number_at bs (k * w) w) ∷ []
next_element zero w bs k l = absurd (omega (arith, l))
next_element (suc n) w bs zero l =
    let at : 0 * w ≡ 0 = omega arith in
    ap (λ (m : ℕ). signed_at (8 * w) m ∷ []) (sym (first_number w bs) ∙ ap (λ (i : ℕ). number_at bs i w) (sym at))
next_element (suc n) w bs (suc k) l =
    let first = signed_at (8 * w) (low_first (take w bs)) in
    let at : w + k * w ≡ suc k * w = omega (arith, suc-mul k w) in
    ap (λ (xs : List ℤ). first ∷ xs) (next_element n w (drop w bs) k (omega (arith, l))) ∙
    ap (λ (m : ℕ). first ∷ (take k (elements n w (drop w bs)) ++ signed_at (8 * w) m ∷ [])) (number_drop w bs (k * w) w ∙ ap (λ (i : ℕ). number_at bs i w) at)

-- ---- words

pub count_words : (t : Ty) (n : ℤ) → length (fill_words t n) ≡ words_of t
count_words t n = by (is_long t)
  where
    by : (b : Bool) → length (if b then lo_of n ∷ hi_of n ∷ [] else narrowed t (word_of n) ∷ []) ≡ elim b [ true ↦ 2 | false ↦ 1 ]
    by true = refl
    by false = refl

filled_append : (t : Ty) (xs : List ℤ) (n : ℤ) → filled t (xs ++ n ∷ []) ≡ filled t xs ++ fill_words t n
filled_append t [] n = append-nil (fill_words t n)
filled_append t (x ∷ xs) n = ap (λ (ws : List ℕ). fill_words t x ++ ws) (filled_append t xs n) ∙ sym (append_assoc (fill_words t x) (filled t xs) (fill_words t n))

filled_count : (t : Ty) (xs : List ℤ) → length (filled t xs) ≡ length xs * words_of t
filled_count t [] = omega arith
filled_count t (x ∷ xs) = omega (arith, length-append (fill_words t x) (filled t xs), count_words t x, filled_count t xs, suc-mul (length xs) (words_of t))

taken_count : (xs : List ℤ) (k : ℕ) → k < length xs → length (take k xs) ≡ k
taken_count [] k l = absurd (omega (arith, l))
taken_count (x ∷ xs) zero l = refl
taken_count (x ∷ xs) (suc k) l = ap suc (taken_count xs k (omega (arith, l)))

pub element_stored : (h : WordHeap) (o : ℕ) (t : Ty) (n w : ℕ) (bs : List ℕ) (k : ℕ) (ws : List ℕ) → k < n → ws ≡ fill_words t (signed_at (8 * w) (number_at bs (k * w) w)) →
    stored (stored h o 0 (filled t (take k (elements n w bs)))) o (k * words_of t) ws ≡ stored h o 0 (filled t (take (suc k) (elements n w bs)))
element_stored h o t n w bs k ws l e =
    let value = signed_at (8 * w) (number_at bs (k * w) w) in
    let before = take k (elements n w bs) in
    let few : k < length (elements n w bs) = omega (arith, l, element_count n w bs) in
    let at : 0 + length (filled t before) ≡ k * words_of t = omega (arith, filled_count t before, ap (λ (m : ℕ). m * words_of t) (taken_count (elements n w bs) k few)) in
    ap (stored (stored h o 0 (filled t before)) o (k * words_of t)) e ∙
    ap (λ (m : ℕ). stored (stored h o 0 (filled t before)) o m (fill_words t value)) (sym at) ∙
    sym (stored_append h o 0 (filled t before) (fill_words t value)) ∙
    ap (stored h o 0) (sym (filled_append t before value) ∙ ap (filled t) (sym (next_element n w bs k l)))

pub room : (t : Ty) (k n : ℕ) → k < n → k * words_of t + words_of t ≤ n * words_of t
room t k n l = by (is_long t)
  where
    by : (b : Bool) → let w : ℕ = elim b [ true ↦ 2 | false ↦ 1 ] in k * w + w ≤ n * w
    by true = omega (arith, l)
    by false = omega (arith, l)

pub words_some : (t : Ty) → 0 < words_of t
words_some t = by (is_long t)
  where
    by : (b : Bool) → let w : ℕ = elim b [ true ↦ 2 | false ↦ 1 ] in 0 < w
    by true = omega arith
    by false = omega arith

take_whole : (xs : List ℤ) → take (length xs) xs ≡ xs
take_whole [] = refl
take_whole (x ∷ xs) = ap (λ (ys : List ℤ). x ∷ ys) (take_whole xs)

pub take_elements : (n w : ℕ) (bs : List ℕ) (k : ℕ) → k ≡ n → take k (elements n w bs) ≡ elements n w bs
take_elements n w bs k e = ap (λ (m : ℕ). take m (elements n w bs)) (e ∙ sym (element_count n w bs)) ∙ take_whole (elements n w bs)
