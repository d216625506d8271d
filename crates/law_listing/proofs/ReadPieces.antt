-- The pieces of lines that are read.
use Rattle.std.proofs.Common.{◌≡◌, ℕ, ◌<◌, Bool, true, false, List, [], ◌∷◌, drop, get_or, map, All, Ok, Err, refl, sym, ◌∙◌, subst}
use Rattle.std.specs.Prelude.{◌^◌}
use Rattle.std.specs.Str.{IsUtf8, is_utf8}
use Rattle.std.proofs.lemmas.Bool.{cond-false, cond-true}
use Rattle.std.proofs.lemmas.List.Elements.{All-nil, All-cons, All-head, All-map, All-weaker}
use Rattle.dv_lex.specs.declared.token.TokenKind.{TokenKind}
use Rattle.dv_lex.specs.declared.token.TokenKind.TheVariants as token
use Rattle.dv_lex.specs.Grammar.{IsLexeme, IsText}
use Rattle.dv_lex.specs.Lexemes.{Lexeme, Lexemes}
use Rattle.dv_lex.specs.Lines.{Read, Row, Reading, and_then_lines, line_lexemes, mark_length, read_rows, rows_from}
use Rattle.dv_lex.specs.Literals.{IsLiteral}
use Rattle.dv_lex.proofs.Grammar.Texts.{tokens}
use Rattle.dv_lex.proofs.Literals.Units.{units_fit}
use Rattle.dv_coderead.specs.Kept.{line_of}
use Rattle.dv_coderead.specs.Pieces.{piece_by, piece_of}
use Rattle.dv_coderead.proofs.Characters.{literal_written}
use Rattle.law_listing.specs.ReadLaws.{IsPieceText, ArePieceTexts, IsLineText, ReadLinesAreTexts}

-- ---- literals of either kind

literal_fits : (q : ℕ) (units text : List ℕ) → IsLiteral q units text → All (λ u. u < 2 ^ 16) units
literal_fits q units text is = units_fit is.writes

-- ---- pieces

kind_text : (kind : TokenKind) (w : List ℕ) → IsText kind w → IsUtf8 w → IsPieceText (piece_by kind w)
kind_text token.Word w is u = u
kind_text token.Mark w is u = tt
kind_text token.Str w is u = subst (All (λ u. u < 2 ^ 16)) (sym (literal_written 34 is.0 w is.1)) (literal_fits 34 is.0 w is.1)
kind_text token.Char w is u =
    let fits = All-head (λ v. v < 2 ^ 16) is.0 [] (literal_fits 39 (is.0 ∷ []) w is.1) in
    subst (λ (us : List ℕ). get_or us 0 0 < 2 ^ 16) (sym (literal_written 39 (is.0 ∷ []) w is.1)) fits

pub piece_text : (l : Lexeme) → IsLexeme l → IsPieceText (piece_of l)
piece_text l is = kind_text l.kind l.text is.of_kind is.utf8

-- ---- lines

abbrev AreRowTexts : List Read → Type 0
AreRowTexts rs = All (λ r. IsLineText (line_of r)) rs

pieces_text : (ls : List Lexeme) → All IsLexeme ls → ArePieceTexts (map piece_of ls)
pieces_text ls are = All-map IsPieceText piece_of ls (All-weaker IsLexeme (λ l. IsPieceText (piece_of l)) piece_text ls are)

-- a line that is good has lexemes of their kinds
lexemes_good : (at : ℕ) (bytes : List ℕ) (ls : List Lexeme) (t : Bool) → is_utf8 bytes ≡ t → line_lexemes at bytes ≡ Ok ls → All IsLexeme ls
lexemes_good at bytes ls true text e = tokens at bytes ls text (sym (cond-true (is_utf8 bytes) _ _ text) ∙ e)
lexemes_good at bytes ls false text e = absurd (let h = sym (cond-false (is_utf8 bytes) _ _ text) ∙ e in cc)

and_line : (n : ℕ) (found : Lexemes) (rest : Reading) → ((ls : List Lexeme) → found ≡ Ok ls → All IsLexeme ls) → AreRowTexts rest.lines → AreRowTexts (and_then_lines n found rest).lines
and_line n (Ok ls) rest good are = All-cons (λ r. IsLineText (line_of r)) (record { number = n; lexemes = ls }) rest.lines (pieces_text ls (good ls refl)) are
and_line n (Err k) rest good are = All-nil (λ r. IsLineText (line_of r))

rows_text : (rs : List Row) → AreRowTexts (read_rows rs).lines
unfolding read_rows
rows_text [] = All-nil (λ r. IsLineText (line_of r))
rows_text (r ∷ rs) = and_line r.number (line_lexemes r.start r.bytes) (read_rows rs) (λ ls e. lexemes_good r.start r.bytes ls (is_utf8 r.bytes) refl e) (rows_text rs)

pub lines_text : ReadLinesAreTexts
lines_text text =
    let rows : List Row = rows_from 1 (mark_length text) (drop (mark_length text) text) in
    All-map IsLineText line_of (read_rows rows).lines (rows_text rows)
