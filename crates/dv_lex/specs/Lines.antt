-- The lines of a text with their tokens, and where reading stops.
use Rattle.std.specs.Prelude.{◌≡◌, ℕ, Bool, ◌+◌, ◌<◌, ◌≤◌, List, [], ◌∷◌, length, map, slice_range, drop, MatchResult, Option, Some, None, Result, Ok, Err, nat_eq, ◌==◌, if◌then◌else◌}
use Rattle.std.specs.Str.{is_utf8}
use Rattle.std.specs.Str.Lines.{strip_carriage_return}
use Rattle.std.specs.List.{All, slice_split, starts_with}
use Rattle.dv_defs.specs.declared.faults.LineKind.{LineKind}
use Rattle.dv_defs.specs.declared.faults.LineKind.TheVariants.{NotUtf8}
use Rattle.dv_defs.specs.declared.faults.LineError.{LineError}
use Rattle.dv_defs.specs.declared.faults.LineError.TheVariants as error
use Rattle.dv_lex.specs.declared.token.Token.{Token}
use Rattle.dv_lex.specs.declared.line.Line.{Line}
use Rattle.dv_lex.specs.declared.line.Stop.{Stop}
use Rattle.dv_lex.specs.declared.line.GoodLines.{GoodLines}
use Rattle.dv_lex.specs.Lexemes.{Lexeme, Lexemes, lexemes, put, Outside}
use Rattle.dv_lex.specs.Grammar.{IsLexeme}

-- ---- lines

-- a line's number, its place in the text, and its bytes
pub record Row : Type 0 where
  pub number : ℕ
  pub start : ℕ
  pub bytes : List ℕ

-- the lines of what stands between line feeds, as std's: an empty last part is none, and only what a line feed ends loses the carriage return
-- before it
abbrev pub rows_of : ℕ → ℕ → List (List ℕ) → List Row
rows_of n at [] = []
rows_of n at (x ∷ []) = if length x == 0 then [] else record { number = n; start = at; bytes = x } ∷ []
rows_of n at (x ∷ y ∷ more) = record { number = n; start = at; bytes = strip_carriage_return x } ∷ rows_of (n + 1) (at + length x + 1) (y ∷ more)

abbrev pub is_line_feed : ℕ → Bool
is_line_feed b = b == 10

-- the lines of a text that stands at this place, the first with this number
abbrev pub rows_from : ℕ → ℕ → List ℕ → List Row
rows_from n at text = rows_of n at (slice_split is_line_feed text)

-- what bytes at a place hold: they are UTF-8, and then the first fault from the left counts
abbrev pub line_lexemes : ℕ → List ℕ → Lexemes
line_lexemes at bytes = if is_utf8 bytes then lexemes at Outside bytes else Err NotUtf8

-- ---- reading

-- a good line, by its number and what it holds
pub record Read : Type 0 where
  pub number : ℕ
  pub lexemes : List Lexeme

-- the good lines, and the line and kind of the first fault if there is one
pub record Reading : Type 0 where
  pub lines : List Read
  pub stop : Option Stop

abbrev pub and_then_lines : ℕ → Lexemes → Reading → Reading
and_then_lines n (Ok ls) rest = record { lines = record { number = n; lexemes = ls } ∷ rest.lines; stop = rest.stop }
and_then_lines n (Err k) rest = record { lines = []; stop = Some (record { line = n; kind = k }) }

unfoldable pub read_rows : List Row → Reading
read_rows [] = record { lines = []; stop = None }
read_rows (r ∷ rs) = and_then_lines r.number (line_lexemes r.start r.bytes) (read_rows rs)

-- how many bytes a byte order mark in front of a text has: it is passed over
abbrev pub mark_length : List ℕ → ℕ
mark_length text = if starts_with nat_eq text (239 ∷ 187 ∷ 191 ∷ []) then 3 else 0

-- what a text holds
abbrev pub reading_of : List ℕ → Reading
reading_of text = read_rows (rows_from 1 (mark_length text) (drop (mark_length text) text))

-- ---- what calls answer

-- a token in its text
abbrev pub lexeme_in : List ℕ → Token → Lexeme
lexeme_in text t = record { kind = t.kind; start = t.start; text = slice_range text t.start t.end }

abbrev pub lexemes_in : List ℕ → List Token → List Lexeme
lexemes_in text ts = map (lexeme_in text) ts

-- a token is a part of the text, and not empty
abbrev pub IsInside : List ℕ → Token → Type 0
IsInside text t = (t.start < t.end) × (t.end ≤ length text)

abbrev pub read_in : List ℕ → Line → Read
read_in text l = record { number = l.number; lexemes = lexemes_in text l.tokens }

abbrev pub IsLineInside : List ℕ → Line → Type 0
IsLineInside text l = All (IsInside text) l.tokens

-- each token is one of its kind
abbrev pub AreTokens : List ℕ → List Token → Type 0
AreTokens text ts = All IsLexeme (lexemes_in text ts)

abbrev pub HasTokens : List ℕ → Line → Type 0
HasTokens text l = AreTokens text l.tokens

-- An answer is what reading finds.
abbrev pub Finds : {X : Type 0} → (X → List Lexeme) → Result X LineKind → Lexemes → Type 0
Finds view (Ok x) found = found ≡ Ok (view x)
Finds view (Err k) found = found ≡ Err k

-- A token begins at start: it is the answer, or the answer is the first fault.
abbrev pub Takes : List ℕ → ℕ → Result Token LineKind → Type 0
Takes text start found = MatchResult found
    (λ t. IsInside text t × (start ≤ t.start)
    × (lexemes start Outside (drop start text) ≡ put (lexeme_in text t) (lexemes t.end Outside (drop t.end text))))
    (λ k. lexemes start Outside (drop start text) ≡ Err k)

-- An answer of a text is all its lines, or the first fault, unless memory ran out.
abbrev pub Stops : LineError → Reading → Type 0
Stops error.Memory r = Unit {0}
Stops (error.At line kind) r = r.stop ≡ Some (record { line = line; kind = kind })

abbrev pub ReadsAll : {X : Type 0} → (X → List Read) → Result X LineError → Reading → Type 0
ReadsAll view (Ok x) r = r ≡ record { lines = view x; stop = None }
ReadsAll view (Err e) r = Stops e r

abbrev pub good_in : List ℕ → GoodLines → Reading
good_in text g = record { lines = map (read_in text) g.lines; stop = g.stop }
