-- The tokens of a line by what they mean: a reading of operands goes over these.
use Rattle.std.specs.Prelude.{ℕ, List, map, slice_index}
use Rattle.dv_lex.specs.declared.token.TokenKind.{TokenKind}
use Rattle.dv_lex.specs.declared.token.TokenKind.TheVariants as token
use Rattle.dv_lex.specs.Lexemes.{Lexeme}
use Rattle.dv_coderead.specs.declared.pieces.Piece.{Piece as CodePiece}
use Rattle.dv_coderead.specs.declared.pieces.Piece.TheVariants as code
use Rattle.dv_coderead.specs.Words.{string_of}

-- a word, a mark, a string's units, a character's unit
pub data Piece : Type 0 where
  AWord : List ℕ → Piece
  AMark : ℕ → Piece
  AString : List ℕ → Piece
  ACharacter : ℕ → Piece

abbrev pub piece_by : TokenKind → List ℕ → Piece
piece_by token.Word w = AWord w
piece_by token.Mark w = AMark (slice_index w 0)
piece_by token.Str w = AString (string_of w)
piece_by token.Char w = ACharacter (slice_index (string_of w) 0)

abbrev pub piece_of : Lexeme → Piece
piece_of l = piece_by l.kind l.text

-- the pieces of a line
abbrev pub pieces_of : List Lexeme → List Piece
pieces_of ls = map piece_of ls

-- a piece as code has it
abbrev pub piece_in : CodePiece → Piece
piece_in (code.Word w) = AWord w.now
piece_in (code.Mark b) = AMark b
piece_in (code.Str units) = AString units
piece_in (code.Char unit) = ACharacter unit

abbrev pub pieces_in : List CodePiece → List Piece
pieces_in ps = map piece_in ps
