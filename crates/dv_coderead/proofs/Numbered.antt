-- The good lines of a text are numbered one by one.
use Rattle.std.proofs.Common.{◌≡◌, ℕ, zero, suc, ◌+◌, ◌-◌, ◌^◌, ◌<◌, ◌≤◌, false, eqb, List, [], ◌∷◌, length, map, take, drop, Option, Some, None, Ok, Err, inl, inr, refl, sym, ap, subst, ◌∙◌, arith}
use Rattle.std.specs.Prelude.{IfSome}
use Rattle.std.specs.List.{All, AllByRecursion, slice_split, onto_first}
use Rattle.std.proofs.lemmas.Bool.{ne_eqb, cases_Bool, cond-true, cond-false}
use Rattle.std.proofs.lemmas.List.{length-drop, length-map}
use Rattle.std.proofs.lemmas.List.Elements.{All-from_recursion}
use Rattle.std.proofs.lemmas.List.Splits.{length-slice_split}
use Rattle.dv_lex.specs.declared.line.Line.{Line}
use Rattle.dv_lex.specs.declared.line.Stop.{Stop}
use Rattle.dv_lex.specs.declared.line.GoodLines.{GoodLines}
use Rattle.dv_lex.specs.Lexemes.{Lexemes}
use Rattle.dv_lex.specs.Lines.{Row, Read, Reading, and_then_lines, good_in, is_line_feed, line_lexemes, mark_length, read_in, read_rows, reading_of, rows_from, rows_of}
use Rattle.dv_coderead.specs.Bodies.{number_behind, HasNext}
use Rattle.dv_coderead.specs.Kept.{text_lines, AreNumbered}

-- ---- rows

-- rows are numbered one by one
AreRows : ℕ → List Row → Type 0
AreRows n [] = Unit {0}
AreRows n (r ∷ rs) = (r.number ≡ n) × AreRows (n + 1) rs

some_length : {A : Type 0} (x : A) (xs : List A) → eqb (length (x ∷ xs)) 0 ≡ false
some_length x xs = ne_eqb (length (x ∷ xs)) 0 (λ e. omega (arith, e))

rows_are : (n at : ℕ) (parts : List (List ℕ)) → AreRows n (rows_of n at parts)
unfolding AreRows
rows_are n at [] = tt
rows_are n at ([] ∷ []) = tt
rows_are n at ((b ∷ bs) ∷ []) = rw (some_length b bs) (refl, tt)
rows_are n at (x ∷ y ∷ more) = (refl, rows_are (n + 1) (at + length x + 1) (y ∷ more))

-- there are no more of them than parts, but for a last part that is empty
size : List (List ℕ) → ℕ
size [] = 0
size (x ∷ xs) = length x + 1 + size xs

rows_few : (n at : ℕ) (parts : List (List ℕ)) → 0 < length parts → length (rows_of n at parts) + 1 ≤ size parts
unfolding size
rows_few n at [] some = absurd (omega arith)
rows_few n at ([] ∷ []) some = omega arith
rows_few n at ((b ∷ bs) ∷ []) some = rw (some_length b bs) (omega arith)
rows_few n at (x ∷ y ∷ more) some = let rest = rows_few (n + 1) (at + length x + 1) (y ∷ more) (omega arith) in omega (arith, rest)

-- a byte more in the first part
size_onto : (b : ℕ) (parts : List (List ℕ)) → 0 < length parts → size (onto_first b parts) ≡ size parts + 1
unfolding size
size_onto b [] some = absurd (omega arith)
size_onto b (x ∷ xs) some = omega arith

some_parts : (text : List ℕ) → 0 < length (slice_split is_line_feed text)
some_parts text = omega (arith, length-slice_split is_line_feed text)

-- the parts between line feeds are as long as the text
split_size : (text : List ℕ) → size (slice_split is_line_feed text) ≡ length text + 1
unfolding size
split_size [] = refl
split_size (b ∷ bs) =
    let rest = split_size bs in
    elim (cases_Bool (is_line_feed b)) [
      | inl is ↦ ap size (cond-true _ _ _ is) ∙ omega (arith, rest)
      | inr other ↦ ap size (cond-false _ _ _ other) ∙ size_onto b (slice_split is_line_feed bs) (some_parts bs) ∙ omega (arith, rest)
    ]

-- ---- good lines

-- good lines are numbered one by one, and the bad line is the next
AreRead : ℕ → List Read → Option Stop → Type 0
AreRead n [] stop = IfSome stop (λ (e : Stop). e.line ≡ n)
AreRead n (r ∷ rs) stop = (r.number ≡ n) × AreRead (n + 1) rs stop

first_are : (n : ℕ) (found : Lexemes) (rest : Reading) → AreRead (n + 1) rest.lines rest.stop → AreRead n (and_then_lines n found rest).lines (and_then_lines n found rest).stop
unfolding AreRead
first_are n (Ok ls) rest are = (refl, are)
first_are n (Err k) rest are = refl

read_are : (n : ℕ) (rs : List Row) → AreRows n rs → AreRead n (read_rows rs).lines (read_rows rs).stop
unfolding AreRows AreRead read_rows
read_are n [] are = tt
read_are n (r ∷ rs) are =
    let rest = read_are (n + 1) rs are.1 in
    subst (λ k. AreRead n (and_then_lines k (line_lexemes r.start r.bytes) (read_rows rs)).lines (and_then_lines k (line_lexemes r.start r.bytes) (read_rows rs)).stop)
    (sym are.0) (first_are n (line_lexemes r.start r.bytes) (read_rows rs) rest)

first_few : (n : ℕ) (found : Lexemes) (rest : Reading) → length (and_then_lines n found rest).lines ≤ length rest.lines + 1
first_few n (Ok ls) rest = omega arith
first_few n (Err k) rest = omega arith

read_few : (rs : List Row) → length (read_rows rs).lines ≤ length rs
unfolding read_rows
read_few [] = omega arith
read_few (r ∷ rs) = let rest = read_few rs in let first = first_few r.number (line_lexemes r.start r.bytes) (read_rows rs) in omega (arith, rest, first)

-- ---- lines as code has them

module _ (text : List ℕ) where
  lines_are : (n : ℕ) (ls : List Line) (stop : Option Stop) → AreRead n (map (read_in text) ls) stop → AreNumbered n ls
  unfolding AreRead
  lines_are n [] stop are = tt
  lines_are n (l ∷ ls) stop are = (are.0, lines_are (n + 1) ls stop are.1)

  stop_is : (n : ℕ) (ls : List Line) (stop : Option Stop) → AreRead n (map (read_in text) ls) stop → IfSome stop (λ (e : Stop). e.line ≡ n + length ls)
  unfolding AreRead
  stop_is n ls None are = tt
  stop_is n [] (Some e) are = are ∙ omega arith
  stop_is n (l ∷ ls) (Some e) are = stop_is (n + 1) ls (Some e) are.1 ∙ omega arith

  -- the number behind the last line
  pub behind_is : (n : ℕ) (l : Line) (ls : List Line) → AreNumbered n (l ∷ ls) → number_behind (text_lines text (l ∷ ls)) ≡ n + length (l ∷ ls)
  unfolding number_behind
  behind_is n l [] are = ap (λ k. k + 1) are.0
  behind_is n l (m ∷ ls) are = behind_is (n + 1) m ls are.1 ∙ omega arith

  pub past_is : (ls : List Line) → AreNumbered 1 ls → number_behind (text_lines text ls) ≡ 1 + length ls
  unfolding number_behind
  past_is [] are = refl
  past_is (l ∷ ls) are = behind_is 1 l ls are

-- lines of which there are fewer than numbers have a number behind them
numbers_next : (n : ℕ) (ls : List Line) → AreNumbered n ls → n + length ls < 2 ^ 32 → AllByRecursion HasNext ls
numbers_next n [] are few = tt
numbers_next n (l ∷ ls) are few = (subst (λ k. k + 1 < 2 ^ 32) (sym are.0) (omega (arith, few)), numbers_next (n + 1) ls are.1 (omega (arith, few)))

module _ (text : List ℕ) (g : GoodLines) (is : good_in text g ≡ reading_of text) where
  -- where the first line begins, and the text from there on
  abbrev start : ℕ
  start = mark_length text

  abbrev rest : List ℕ
  rest = drop start text

  -- so they are read
  are_read : AreRead 1 (map (read_in text) g.lines) g.stop
  are_read =
      subst (λ (r : Reading). AreRead 1 r.lines r.stop) (sym is) (read_are 1 (rows_from 1 start rest) (rows_are 1 start (slice_split is_line_feed rest)))

  pub numbered : AreNumbered 1 g.lines
  numbered = lines_are text 1 g.lines g.stop are_read

  -- the bad line is the next
  pub stop_behind : IfSome g.stop (λ (e : Stop). e.line ≡ 1 + length g.lines)
  stop_behind = stop_is text 1 g.lines g.stop are_read

  -- there are no more lines than bytes
  pub few_lines : length g.lines ≤ length text
  few_lines =
      let rows = rows_few 1 start (slice_split is_line_feed rest) (some_parts rest) in
      let read = read_few (rows_from 1 start rest) in
      let same : length g.lines ≡ length (reading_of text).lines = sym (length-map g.lines (read_in text)) ∙ ap (λ (r : Reading). length r.lines) is in
      omega (arith, rows, read, same, split_size rest, length-drop start text)

  pub have_next : length text < 2 ^ 32 - 1 → All HasNext g.lines
  have_next few = All-from_recursion HasNext g.lines (numbers_next 1 g.lines numbered (omega (arith, few, few_lines)))

-- ---- parts of numbered lines

pub front_numbered : (n k : ℕ) (ls : List Line) → AreNumbered n ls → AreNumbered n (take k ls)
front_numbered n zero ls are = tt
front_numbered n (suc k) [] are = tt
front_numbered n (suc k) (l ∷ ls) are = (are.0, front_numbered (n + 1) k ls are.1)

pub back_numbered : (n k : ℕ) (ls : List Line) → AreNumbered n ls → AreNumbered (n + k) (drop k ls)
back_numbered n zero ls are = subst (λ m. AreNumbered m ls) (omega arith) are
back_numbered n (suc k) [] are = tt
back_numbered n (suc k) (l ∷ ls) are = subst (λ m. AreNumbered m (drop k ls)) (omega arith) (back_numbered (n + 1) k ls are.1)
