-- Lines one after the other.
use Rattle.std.proofs.Common.{◌≡◌, ℕ, zero, suc, ◌+◌, ◌-◌, ◌<◌, ◌≤◌, Bool, true, false, cond, eqb, ltb, List, [], ◌∷◌, ◌++◌, length, get_or, map, take, drop, Result, Ok, Err, Some, None, refl, sym, ap, ◌∙◌, append_assoc, arith, inl, inr, Vec, Global}
use Rattle.std.specs.declared.alloc.AllocError.{AllocError}
use Rattle.std.specs.Prelude.{slice_range, position, IfOk}
use Rattle.std.specs.List.{slice_split, position_or_len, All, AllByRecursion, list_all}
use Rattle.std.specs.Str.{IsUtf8, is_utf8}
use Rattle.std.specs.Str.Lines.{lines, strip_carriage_return, lines_of_parts}
use Rattle.std.proofs.lemmas.Bool.{cases_Bool, cases_lt, ltb-true, lt-ltb, ne_eqb, cond-true, cond-false, and_parts, leb-true}
use Rattle.std.proofs.lemmas.Bool.Decides.{eqb_tells}
use Rattle.std.proofs.lemmas.Option.{cond_some}
use Rattle.std.proofs.lemmas.Str.{IsUtf8-from_is_utf8}
use Rattle.std.proofs.lemmas.List.{append-nil, at_drop_all, length-take, take-take, drop-drop}
use Rattle.std.proofs.lemmas.List.Elements.{All-head, All-tail, All-from_recursion}
use Rattle.std.proofs.lemmas.List.Splits.{slice_split_at, slice_split_first, length-slice_split}
use Rattle.std.proofs.lemmas.Slice.{between_is}
use Rattle.dv_defs.specs.declared.faults.LineKind.{LineKind}
use Rattle.dv_lex.specs.declared.token.Token.{Token}
use Rattle.dv_lex.specs.Lexemes.{Lexeme, lexemes, Outside}
use Rattle.dv_lex.specs.Lines.{Row, Read, Reading, rows_of, rows_from, is_line_feed, line_lexemes, read_rows, lexemes_in, AreTokens, Finds, IsInside}
use Rattle.dv_lex.specs.Grammar.{IsLexeme}
use Rattle.dv_lex.specs.Laws.Lines.{bytes_in, is_printed}
use Rattle.dv_defs.specs.declared.faults.LineKind.TheVariants.{NotUtf8}
use Rattle.dv_lex.proofs.Grammar.Texts.{tokens}
use Rattle.dv_lex.proofs.Fronts.{with_lines}
use Rattle.dv_lex.proofs.Steps.{tail_is}

abbrev pub row : ℕ → ℕ → List ℕ → Row
row n at bytes = record { number = n; start = at; bytes = bytes }

-- ---- the first line

-- a split is never empty, so what is in front of one is a line that was ended
ended_by : (n at : ℕ) (p : List ℕ) (parts : List (List ℕ)) → 0 < length parts → rows_of n at (p ∷ parts) ≡ row n at (strip_carriage_return p) ∷ rows_of (n + 1) (at + length p + 1) parts
ended_by n at p [] lt = absurd (omega arith)
ended_by n at p (q ∷ ps) lt = refl

position_some : (p : ℕ → Bool) (xs : List ℕ) (n : ℕ) → Some n ≡ position p xs → (position_or_len p xs ≡ n) × (n < length xs)
position_some p xs n e =
    let h = cond_some (ltb (position_or_len p xs) (length xs)) (position_or_len p xs) n (sym e) in
    let lt : position_or_len p xs < length xs = ltb-true _ _ h.0 in (h.1, omega (arith, lt, h.1))

first_ended : (number at : ℕ) (xs : List ℕ) (n : ℕ) → Some n ≡ position is_line_feed xs
    → (n < length xs) × (rows_from number at xs ≡ row number at (strip_carriage_return (take n xs)) ∷ rows_from (number + 1) (at + n + 1) (drop (n + 1) xs))
first_ended number at xs n e =
    let p = position_some is_line_feed xs n e in
    let lt : position_or_len is_line_feed xs < length xs = omega (arith, p.0, p.1) in
    let s = slice_split_first is_line_feed xs 0 lt in
    let k : 0 < length (slice_split is_line_feed (drop (n + 1) xs)) = omega (arith, length-slice_split is_line_feed (drop (n + 1) xs)) in
    let next : at + length (take n xs) + 1 ≡ at + n + 1 = omega (arith, length-take n xs, p.1) in (
      p.1,
      ap (rows_of number at) (rw (p.0) at s) ∙ ended_by number at (take n xs) (slice_split is_line_feed (drop (n + 1) xs)) k
          ∙ ap (λ i. row number at (strip_carriage_return (take n xs)) ∷ rows_from (number + 1) i (drop (n + 1) xs)) next,
    )

no_split : (xs : List ℕ) → length xs ≤ position_or_len is_line_feed xs → slice_split is_line_feed xs ≡ xs ∷ []
no_split [] h = refl
no_split (x ∷ xs) h =
    elim (eqb_tells x 10) [
      | inl t ↦ absurd (let k = rw t.0 at h in omega (arith, k))
      | inr f ↦ let k = rw f.0 at h in rw (f.0, no_split xs (omega (arith, k))) refl
    ]

-- the last line, which no line feed ends
pub first_last : (number at : ℕ) (xs : List ℕ) → 0 < length xs → None ≡ position is_line_feed xs → rows_from number at xs ≡ row number at xs ∷ []
first_last number at xs lt e =
    elim (cases_lt (position_or_len is_line_feed xs) (length xs)) [
      | inl in_it ↦ absurd (let h : None ≡ Some (position_or_len is_line_feed xs) = e ∙ cond-true _ _ _ (lt-ltb _ _ in_it) in cc)
      | inr past ↦ ap (rows_of number at) (no_split xs past) ∙ cond-false _ _ _ (ne_eqb _ _ (λ (z : length xs ≡ 0). omega (arith, z)))
    ]

pub no_rows : (number at start : ℕ) (text : List ℕ) → length text ≤ start → rows_from number at (drop start text) ≡ []
no_rows number at start text le = at_drop_all (rows_from number at) text start le

-- a line that a line feed ends
pub some_line : (number : ℕ) (text : List ℕ) (start len t : ℕ) → Some len ≡ position is_line_feed (slice_range text start (length text)) → t ≤ length (slice_range text start (start + len))
    → take t (slice_range text start (start + len)) ≡ strip_carriage_return (slice_range text start (start + len))
    → rows_from number start (drop start text) ≡ row number start (slice_range text start (start + t)) ∷ rows_from (number + 1) (start + len + 1) (drop (start + len + 1) text)
some_line number text start len t e le h =
    let k : (start + len) - start ≡ len = omega arith in
    let kt : (start + t) - start ≡ t = omega arith in
    let f = first_ended number start (drop start text) len (rw (tail_is text start) at e) in
    let g : take t (take len (drop start text)) ≡ strip_carriage_return (take len (drop start text)) = rw k at h in
    let le2 : t ≤ len = omega (arith, rw k at le, length-take len (drop start text)) in
    let rest : drop (len + 1) (drop start text) ≡ drop (start + len + 1) text = drop-drop (len + 1) start text ∙ ap (λ (n : ℕ). drop n text) (omega arith) in
    f.1 ∙ rw (kt, ← g, take-take t len (drop start text) le2, rest) refl

-- ---- a line of a text, and the text up to its end

shorter : (text : List ℕ) (i j end : ℕ) → j ≤ end → slice_range (take end text) i j ≡ slice_range text i j
shorter text i j end le = between_is (take end text) i j ∙ ap (drop i) (take-take j end text le) ∙ sym (between_is text i j)

ends_within : (text : List ℕ) (end : ℕ) (ts : List Token) → All (IsInside (take end text)) ts → lexemes_in (take end text) ts ≡ lexemes_in text ts
ends_within text end [] all = refl
ends_within text end (t ∷ ts) all =
    let h = All-head (IsInside (take end text)) t ts all in
    let le : t.end ≤ end = omega (arith, h.1, length-take end text) in
    rw (ends_within text end ts (All-tail (IsInside (take end text)) t ts all), shorter text t.start t.end end le) refl

pub is_not_utf8 : (bs : List ℕ) → ¬ (IsUtf8 bs) → is_utf8 bs ≡ false
is_not_utf8 bs h = elim (cases_Bool (is_utf8 bs)) [ inl t ↦ absurd (h (IsUtf8-from_is_utf8 bs t)) | inr f ↦ f ]

-- what a line gives
pub line_gives : (text : List ℕ) (start end : ℕ) (r : Result (Vec Token Global) LineKind) → is_utf8 (slice_range text start end) ≡ true
    → IfOk r (λ v. All (IsInside (take end text)) v.items)
    → Finds (λ v. lexemes_in (take end text) v.items) r (lexemes start Outside (drop start (take end text)))
    → Finds (λ v. lexemes_in text v.items) r (line_lexemes start (slice_range text start end))
line_gives text start end (Ok v) u within h = rw (u, between_is text start end) (h ∙ ap (λ (ls : List Lexeme). Ok ls) (ends_within text end v.items within))
line_gives text start end (Err k) u within h = rw (u, between_is text start end) h

pub answer_gives : (text : List ℕ) (start end : ℕ) (r : Result (Result (Vec Token Global) LineKind) AllocError) → is_utf8 (slice_range text start end) ≡ true
    → IfOk r (λ q. IfOk q (λ v. All (IsInside (take end text)) v.items))
    → IfOk r (λ q. Finds (λ v. lexemes_in (take end text) v.items) q (lexemes start Outside (drop start (take end text))))
    → IfOk r (λ q. Finds (λ v. lexemes_in text v.items) q (line_lexemes start (slice_range text start end)))
answer_gives text start end (Ok q) u within h = line_gives text start end q u within h
answer_gives text start end (Err e) u within h = tt

-- the tokens of a line are tokens of their kinds
by_encoding : (c : Bool) (at : ℕ) (bytes : List ℕ) (ls : List Lexeme) → is_utf8 bytes ≡ c → cond c (lexemes at Outside bytes) (Err NotUtf8) ≡ Ok ls → All IsLexeme ls
by_encoding true at bytes ls u e = tokens at bytes ls u e
by_encoding false at bytes ls u e = absurd cc

good_lexemes : (at : ℕ) (bytes : List ℕ) (ls : List Lexeme) → line_lexemes at bytes ≡ Ok ls → All IsLexeme ls
good_lexemes at bytes ls e = by_encoding (is_utf8 bytes) at bytes ls refl e

found_tokens : (text : List ℕ) (at : ℕ) (bytes : List ℕ) (q : Result (Vec Token Global) LineKind) → Finds (λ v. lexemes_in text v.items) q (line_lexemes at bytes) → IfOk q (λ v. AreTokens text v.items)
found_tokens text at bytes (Ok v) h = good_lexemes at bytes (lexemes_in text v.items) h
found_tokens text at bytes (Err k) h = tt

pub answer_has_tokens : (text : List ℕ) (at : ℕ) (bytes : List ℕ) (r : Result (Result (Vec Token Global) LineKind) AllocError)
    → IfOk r (λ q. Finds (λ v. lexemes_in text v.items) q (line_lexemes at bytes)) → IfOk r (λ q. IfOk q (λ v. AreTokens text v.items))
answer_has_tokens text at bytes (Ok q) h = found_tokens text at bytes q h
answer_has_tokens text at bytes (Err e) h = tt

-- ---- one line after the other

pub line_more : (front : List Read) (n at : ℕ) (all others : List Row) (bytes : List ℕ) (ls : List Lexeme) (total : Reading) → all ≡ row n at bytes ∷ others → line_lexemes at bytes ≡ Ok ls
    → with_lines front (read_rows all) ≡ total → with_lines (front ++ record { number = n; lexemes = ls } ∷ []) (read_rows others) ≡ total
unfolding read_rows
line_more front n at all others bytes ls total e h so_far =
    let one : with_lines front (read_rows all) ≡ with_lines (front ++ record { number = n; lexemes = ls } ∷ []) (read_rows others) =
    rw (e, h) (ap (λ (rs : List Read). record { lines = rs; stop = (read_rows others).stop }) (sym (append_assoc front (record { number = n; lexemes = ls } ∷ []) (read_rows others).lines))) in
    sym one ∙ so_far

pub line_fails : (front : List Read) (n at : ℕ) (all others : List Row) (bytes : List ℕ) (k : LineKind) (total : Reading) → all ≡ row n at bytes ∷ others → line_lexemes at bytes ≡ Err k
    → with_lines front (read_rows all) ≡ total → record { lines = front; stop = Some (record { line = n; kind = k }) } ≡ total
unfolding read_rows
line_fails front n at all others bytes k total e h so_far =
    let one : with_lines front (read_rows all) ≡ record { lines = front; stop = Some (record { line = n; kind = k }) } =
    rw (e, h) (ap (λ (rs : List Read). record { lines = rs; stop = Some (record { line = n; kind = k }) }) (append-nil front)) in
    sym one ∙ so_far

pub lines_done : (front : List Read) (rows : List Row) (total : Reading) → rows ≡ [] → with_lines front (read_rows rows) ≡ total → record { lines = front; stop = None } ≡ total
unfolding read_rows
lines_done front rows total none so_far =
    let one : with_lines front (read_rows rows) ≡ record { lines = front; stop = None } = rw none (ap (λ (rs : List Read). record { lines = rs; stop = None }) (append-nil front)) in
    sym one ∙ so_far

-- ---- std's lines

empty_or_one : (c : Bool) (n at : ℕ) (x : List ℕ) → map bytes_in (cond c [] (row n at x ∷ [])) ≡ cond c [] (x ∷ [])
empty_or_one true n at x = refl
empty_or_one false n at x = refl

pub rows_are_lines : (n at : ℕ) (parts : List (List ℕ)) → map bytes_in (rows_of n at parts) ≡ lines_of_parts parts
rows_are_lines n at [] = refl
rows_are_lines n at (x ∷ []) = empty_or_one (eqb (length x) 0) n at x
rows_are_lines n at (x ∷ y ∷ more) = ap (λ (rest : List (List ℕ)). strip_carriage_return x ∷ rest) (rows_are_lines (n + 1) (at + length x + 1) (y ∷ more))

-- a printed line has no carriage return to lose, and no line feed
printed_at : (w : List ℕ) (i : ℕ) → i < length w → list_all is_printed w ≡ true → 32 ≤ get_or w i 0
printed_at [] i lt h = absurd (omega arith)
printed_at (b ∷ w) zero lt h = leb-true 32 b (and_parts _ _ h).0
printed_at (b ∷ w) (suc i) lt h = printed_at w i (omega arith) (and_parts _ _ h).1

no_return : (w : List ℕ) → list_all is_printed w ≡ true → strip_carriage_return w ≡ w
no_return [] h = refl
no_return (b ∷ w) h =
    let k : 32 ≤ get_or (b ∷ w) (length (b ∷ w) - 1) 0 = printed_at (b ∷ w) (length (b ∷ w) - 1) (omega arith) h in
    cond-false _ _ _ (ne_eqb _ _ (λ (z : get_or (b ∷ w) (length (b ∷ w) - 1) 0 ≡ 13). omega (arith, k, z)))

no_feed : (w : List ℕ) → list_all is_printed w ≡ true → AllByRecursion (λ b. is_line_feed b ≡ false) w
no_feed [] h = tt
no_feed (b ∷ w) h = let p = and_parts _ _ h in let low = leb-true 32 b p.0 in (ne_eqb b 10 (λ (z : b ≡ 10). omega (arith, low, z)), no_feed w p.1)

ended : (p : List ℕ) (parts : List (List ℕ)) → 0 < length parts → lines_of_parts (p ∷ parts) ≡ strip_carriage_return p ∷ lines_of_parts parts
ended p [] lt = absurd (omega arith)
ended p (q ∷ ps) lt = refl

pub printed_line : (w rest : List ℕ) → list_all is_printed w ≡ true → lines (w ++ 10 ∷ rest) ≡ w ∷ lines rest
printed_line w rest h =
    let s : slice_split is_line_feed (w ++ 10 ∷ rest) ≡ w ∷ slice_split is_line_feed rest = slice_split_at is_line_feed w 10 rest (All-from_recursion (λ b. is_line_feed b ≡ false) w (no_feed w h)) refl in
    ap lines_of_parts s ∙ ended w (slice_split is_line_feed rest) (omega (arith, length-slice_split is_line_feed rest)) ∙ ap (λ (l : List ℕ). l ∷ lines rest) (no_return w h)
