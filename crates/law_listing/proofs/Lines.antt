-- Lines of pieces are read as these pieces.
use Rattle.std.proofs.Common.{◌≡◌, ℕ, zero, suc, ◌+◌, ◌-◌, ◌<◌, ◌≤◌, true, false, List, [], ◌∷◌, ◌++◌, length, drop, get_or, map, Ok, None, refl, sym, ap, ◌∙◌, subst, append_assoc, arith}
use Rattle.std.specs.List.{flat_map, list_all, slice_split, All, AllByRecursion}
use Rattle.std.specs.Str.Lines.{strip_carriage_return}
use Rattle.std.specs.Str.{is_utf8}
use Rattle.std.proofs.lemmas.Bool.{and_parts, cond-true, cond-false, leb-true, ne_eqb}
use Rattle.std.proofs.lemmas.List.Elements.{All-head, All-tail, All-from_recursion}
use Rattle.std.proofs.lemmas.List.Splits.{slice_split_at, length-slice_split}
use Rattle.dv_lex.specs.Grammar.{Holds}
use Rattle.dv_lex.specs.Laws.Lines.{is_printed}
use Rattle.dv_lex.specs.Lexemes.{Lexeme, Lexemes}
use Rattle.dv_lex.specs.Lines.{Row, Reading, and_then_lines, is_line_feed, line_lexemes, read_rows, rows_from, rows_of}
use Rattle.dv_lex.proofs.Grammar.Only.{only}
use Rattle.dv_lex.proofs.Rows.{no_rows, row}
use Rattle.dv_coderead.specs.Kept.{line_of}
use Rattle.dv_coderead.specs.Pieces.{Piece}
use Rattle.law_listing.specs.Printed.{HasPieces, HaveLines, NoLine, OneLine, numbered}
use Rattle.law_listing.specs.Laws.{PrintedLinesAreRead}

-- ---- lines after each other

pub one_line : (line : List ℕ) (ps : List Piece) → HasPieces line ps → HaveLines (line ++ 10 ∷ []) (ps ∷ [])
one_line line ps h = OneLine line [] ps [] h NoLine

pub lines_append : (xs ys : List ℕ) (pss qss : List (List Piece)) → HaveLines xs pss → HaveLines ys qss → HaveLines (xs ++ ys) (pss ++ qss)
lines_append xs ys pss qss NoLine k = k
lines_append xs ys pss qss (OneLine line rest ps more h hs) k =
    subst (λ (l : List ℕ). HaveLines l (ps ∷ (more ++ qss))) (sym (append_assoc line (10 ∷ rest) ys)) (OneLine line (rest ++ ys) ps (more ++ qss) h (lines_append rest ys more qss hs k))

pub same_lines : (xs ys : List ℕ) (pss : List (List Piece)) → xs ≡ ys → HaveLines ys pss → HaveLines xs pss
same_lines xs ys pss e h = subst (λ (l : List ℕ). HaveLines l pss) (sym e) h

-- the lines of each
pub lines_flat_map : {A : Type 0} (P : A → Type 0) (text : A → List ℕ) (pieces : A → List (List Piece)) (xs : List A)
    → ((x : A) → P x → HaveLines (text x) (pieces x)) → All P xs → HaveLines (flat_map text xs) (flat_map pieces xs)
lines_flat_map P text pieces [] each all = NoLine
lines_flat_map P text pieces (x ∷ xs) each all =
    lines_append (text x) (flat_map text xs) (pieces x) (flat_map pieces xs) (each x (All-head P x xs all)) (lines_flat_map P text pieces xs each (All-tail P x xs all))

-- each of one line
pub lines_map : {A : Type 0} (P : A → Type 0) (text : A → List ℕ) (pieces : A → List Piece) (xs : List A)
    → ((x : A) → P x → HaveLines (text x) (pieces x ∷ [])) → All P xs → HaveLines (flat_map text xs) (map pieces xs)
lines_map P text pieces [] each all = NoLine
lines_map P text pieces (x ∷ xs) each all =
    lines_append (text x) (flat_map text xs) (pieces x ∷ []) (map pieces xs) (each x (All-head P x xs all)) (lines_map P text pieces xs each (All-tail P x xs all))

pub numbered_append : (n : ℕ) (pss qss : List (List Piece)) → numbered n (pss ++ qss) ≡ numbered n pss ++ numbered (n + length pss) qss
numbered_append n [] qss = ap (λ m. numbered m qss) (omega arith)
numbered_append n (ps ∷ pss) qss =
    let next : n + 1 + length pss ≡ n + length (ps ∷ pss) = omega arith in
    ap (λ ls. record { number = n; pieces = ps } ∷ ls) (numbered_append (n + 1) pss qss ∙ ap (λ m. numbered (n + 1) pss ++ numbered m qss) next)

-- ---- rows

printed_at : (w : List ℕ) (i : ℕ) → i < length w → list_all is_printed w ≡ true → 32 ≤ get_or w i 0
printed_at [] i lt h = absurd (omega arith)
printed_at (b ∷ w) zero lt h = leb-true 32 b (and_parts _ _ h).0
printed_at (b ∷ w) (suc i) lt h = printed_at w i (omega arith) (and_parts _ _ h).1

-- no carriage return is lost
no_return : (w : List ℕ) → list_all is_printed w ≡ true → strip_carriage_return w ≡ w
no_return [] h = refl
no_return (b ∷ w) h =
    let k : 32 ≤ get_or (b ∷ w) (length (b ∷ w) - 1) 0 = printed_at (b ∷ w) (length (b ∷ w) - 1) (omega arith) h in
    cond-false _ _ _ (ne_eqb _ _ (λ (z : get_or (b ∷ w) (length (b ∷ w) - 1) 0 ≡ 13). omega (arith, k, z)))

pub no_feed : (w : List ℕ) → list_all is_printed w ≡ true → AllByRecursion (λ b. is_line_feed b ≡ false) w
no_feed [] h = tt
no_feed (b ∷ w) h = let p = and_parts _ _ h in let low = leb-true 32 b p.0 in (ne_eqb b 10 (λ (z : b ≡ 10). omega (arith, low, z)), no_feed w p.1)

ended_by : (n at : ℕ) (p : List ℕ) (parts : List (List ℕ)) → 0 < length parts → rows_of n at (p ∷ parts) ≡ row n at (strip_carriage_return p) ∷ rows_of (n + 1) (at + length p + 1) parts
ended_by n at p [] lt = absurd (omega arith)
ended_by n at p (q ∷ ps) lt = refl

-- a printed line is a row
first_row : (n at : ℕ) (w rest : List ℕ) → list_all is_printed w ≡ true → rows_from n at (w ++ 10 ∷ rest) ≡ row n at w ∷ rows_from (n + 1) (at + length w + 1) rest
first_row n at w rest h =
    let s : slice_split is_line_feed (w ++ 10 ∷ rest) ≡ w ∷ slice_split is_line_feed rest = slice_split_at is_line_feed w 10 rest (All-from_recursion (λ b. is_line_feed b ≡ false) w (no_feed w h)) refl in
    ap (rows_of n at) s ∙ ended_by n at w (slice_split is_line_feed rest) (omega (arith, length-slice_split is_line_feed rest))
    ∙ ap (λ l. row n at l ∷ rows_from (n + 1) (at + length w + 1) rest) (no_return w h)

-- ---- reading

-- what rows are read as
record IsRead (n : ℕ) (rows : List Row) (pss : List (List Piece)) : Type 0 where
  lines : map line_of (read_rows rows).lines ≡ numbered n pss
  well : (read_rows rows).stop ≡ None

line_read : (at : ℕ) (w : List ℕ) (ls : List Lexeme) → is_utf8 w ≡ true → Holds at w ls → line_lexemes at w ≡ Ok ls
line_read at w ls text holds = cond-true (is_utf8 w) _ _ text ∙ only at w ls holds

no_read : (n : ℕ) → IsRead n [] []
unfolding read_rows
no_read n = record { lines = refl; well = refl }

row_read : (n at : ℕ) (w : List ℕ) (ls : List Lexeme) (rows : List Row) → line_lexemes at w ≡ Ok ls
    → read_rows (row n at w ∷ rows) ≡ record { lines = record { number = n; lexemes = ls } ∷ (read_rows rows).lines; stop = (read_rows rows).stop }
unfolding read_rows
row_read n at w ls rows e = ap (λ (found : Lexemes). and_then_lines n found (read_rows rows)) e

one_read : (n at : ℕ) (w : List ℕ) (ps : List Piece) (rows : List Row) (pss : List (List Piece)) → HasPieces w ps → IsRead (n + 1) rows pss → IsRead n (row n at w ∷ rows) (ps ∷ pss)
one_read n at w ps rows pss h r =
    let t = h.tokens at in
    let e = row_read n at w t.lexemes rows (line_read at w t.lexemes h.utf8 t.holds) in
    record {
      lines = ap (λ (x : Reading). map line_of x.lines) e ∙ ap (λ qs. record { number = n; pieces = qs } ∷ map line_of (read_rows rows).lines) t.mean ∙ ap (λ ls. record { number = n; pieces = ps } ∷ ls) r.lines;
      well = ap (λ (x : Reading). x.stop) e ∙ r.well;
    }

rows_read : (n at : ℕ) (text : List ℕ) (pss : List (List Piece)) → HaveLines text pss → IsRead n (rows_from n at text) pss
rows_read n at text pss NoLine = subst (λ rows. IsRead n rows []) (sym (no_rows n at 0 [] (omega arith))) (no_read n)
rows_read n at text pss (OneLine w rest ps more h hs) =
    subst (λ rows. IsRead n rows (ps ∷ more)) (sym (first_row n at w rest h.printed)) (one_read n at w ps (rows_from (n + 1) (at + length w + 1) rest) more h (rows_read (n + 1) (at + length w + 1) rest more hs))

pub lines_read : PrintedLinesAreRead
lines_read text pss none h =
    let r = subst (λ n. IsRead 1 (rows_from 1 n (drop n text)) pss) (sym none) (rows_read 1 0 text pss h) in
    record { lines = r.lines; well = r.well }
