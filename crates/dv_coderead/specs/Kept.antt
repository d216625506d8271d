-- The lines that count: those that hold something and aren't passed over.
use Rattle.std.specs.Prelude.{◌≡◌, ℕ, ◌+◌, ◌-◌, ◌≤◌, ◌<◌, ◌&&◌, not, Bool, true, false, List, [], ◌∷◌, length, map, drop, slice_index_or, nat_eq, if◌then◌else◌}
use Rattle.dv_lex.specs.declared.line.Line.{Line}
use Rattle.dv_lex.specs.Lines.{Read, read_in}
use Rattle.dv_coderead.specs.declared.head.Directive.TheVariants.{Annotation, EndAnnotation, Skipped}
use Rattle.dv_coderead.specs.declared.head.Head.{Head}
use Rattle.dv_coderead.specs.declared.head.Head.TheVariants.{Blank, Directive}
use Rattle.dv_coderead.specs.Pieces.{Piece, pieces_of}
use Rattle.dv_coderead.specs.declared.kept.Next.{Next}
use Rattle.dv_coderead.specs.declared.kept.Next.TheVariants as next
use Rattle.dv_coderead.specs.Heads.{head_of}

-- a line by its number and its pieces
pub record TextLine : Type 0 where
  pub number : ℕ
  pub pieces : List Piece

abbrev pub line_of : Read → TextLine
line_of r = record { number = r.number; pieces = pieces_of r.lexemes }

-- the lines of a text as code has them
abbrev pub text_line : List ℕ → Line → TextLine
text_line text l = line_of (read_in text l)

abbrev pub text_lines : List ℕ → List Line → List TextLine
text_lines text ls = map (text_line text) ls

-- lines are numbered one by one, the first by this number
abbrev pub AreNumbered : ℕ → List Line → Type 0
AreNumbered n [] = Unit {0}
AreNumbered n (l ∷ ls) = (l.number ≡ n) × AreNumbered (n + 1) ls

-- ---- what is passed over

abbrev pub opens : Head → Bool
opens (Directive Annotation) = true
opens h = false

abbrev pub closes : Head → Bool
closes (Directive EndAnnotation) = true
closes h = false

-- lines that are passed over wherever they stand
abbrev pub is_passed : Head → Bool
is_passed Blank = true
is_passed (Directive Skipped) = true
is_passed h = false

-- how many annotations are open behind a line, before which so many are
abbrev pub depth_behind : ℕ → Head → ℕ
depth_behind n h = if opens h then n + 1 else if closes h then n - 1 else n

-- whether a line counts, before which so many annotations are open
abbrev pub counts : ℕ → Head → Bool
counts n h = nat_eq n 0 && not (opens h) && not (is_passed h)

-- the lines that count
unfoldable pub kept : ℕ → List TextLine → List TextLine
kept n [] = []
kept n (l ∷ ls) =
    let h = head_of l.pieces in
    if counts n h then l ∷ kept (depth_behind n h) ls else kept (depth_behind n h) ls

-- how many annotations are open behind these lines
unfoldable pub open_behind : ℕ → List TextLine → ℕ
open_behind n [] = n
open_behind n (l ∷ ls) = open_behind (depth_behind n (head_of l.pieces)) ls

-- ---- what calls answer

-- the lines that count from a place on, and how many annotations are open behind them
abbrev pub kept_from : List ℕ → List Line → ℕ → List TextLine
kept_from text ls at = kept 0 (drop at (text_lines text ls))

abbrev pub open_from : List ℕ → List Line → ℕ → ℕ
open_from text ls at = open_behind 0 (drop at (text_lines text ls))

abbrev pub no_line : Line
no_line = record { number = 0; tokens = [] }

-- the line at a place
abbrev pub line_at : List ℕ → List Line → ℕ → TextLine
line_at text ls at = text_line text (slice_index_or ls at no_line)

-- the line at a place is the next that counts, and what it is
pub record IsNext (text : List ℕ) (ls : List Line) (from at : ℕ) (h : Head) : Type 0 where
  pub behind : from ≤ at
  pub inside : at < length ls
  pub head : h ≡ head_of (line_at text ls at).pieces
  pub kept : kept_from text ls from ≡ line_at text ls at ∷ kept_from text ls (at + 1)
  pub depth : open_from text ls from ≡ open_from text ls (at + 1)

abbrev pub Comes : List ℕ → List Line → ℕ → Next → Type 0
Comes text ls from (next.Line at h) = IsNext text ls from at h
Comes text ls from next.End = (kept_from text ls from ≡ []) × (open_from text ls from ≡ 0)
Comes text ls from next.Unfinished = (kept_from text ls from ≡ []) × (0 < open_from text ls from)
