-- Printed lines, and the pieces that stand on them.
use Rattle.std.specs.Prelude.{◌≡◌, ℕ, ◌+◌, true, List, [], ◌∷◌, ◌++◌}
use Rattle.std.specs.List.{list_all}
use Rattle.std.specs.Str.{is_utf8}
use Rattle.dv_lex.specs.Grammar.{Holds}
use Rattle.dv_lex.specs.Lexemes.{Lexeme}
use Rattle.dv_lex.specs.Laws.Lines.{is_printed}
use Rattle.dv_coderead.specs.Kept.{TextLine}
use Rattle.dv_coderead.specs.Pieces.{Piece, pieces_of}

-- these bytes hold tokens that mean these pieces, wherever they stand
pub record HasTokensAt (at : ℕ) (bytes : List ℕ) (pieces : List Piece) : Type 0 where
  pub lexemes : List Lexeme
  pub holds : Holds at bytes lexemes
  pub mean : pieces_of lexemes ≡ pieces

-- a line without control characters, in UTF-8, on which these pieces stand
pub record HasPieces (bytes : List ℕ) (pieces : List Piece) : Type 0 where
  pub printed : list_all is_printed bytes ≡ true
  pub utf8 : is_utf8 bytes ≡ true
  pub tokens : (at : ℕ) → HasTokensAt at bytes pieces

-- lines on which these pieces stand, each with a line feed behind it
pub data HaveLines : List ℕ → List (List Piece) → Type 0 where
  NoLine : HaveLines [] []
  OneLine : (line rest : List ℕ) (pieces : List Piece) (more : List (List Piece)) → HasPieces line pieces → HaveLines rest more
      → HaveLines (line ++ 10 ∷ rest) (pieces ∷ more)

-- lines of pieces, the first with this number
abbrev pub numbered : ℕ → List (List Piece) → List TextLine
numbered n [] = []
numbered n (ps ∷ pss) = record { number = n; pieces = ps } ∷ numbered (n + 1) pss
