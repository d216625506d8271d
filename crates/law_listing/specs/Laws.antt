-- The laws of the listing.
use Rattle.std.specs.Prelude.{◌≡◌, ℕ, List, None, map}
use Rattle.dv_lex.specs.Lines.{mark_length, reading_of}
use Rattle.dv_coderead.specs.Kept.{line_of}
use Rattle.dv_coderead.specs.Pieces.{Piece}
use Rattle.law_listing.specs.Printed.{HaveLines, numbered}

-- lines that hold these pieces are read as these pieces, each by its number, where no byte order mark stands in front
pub record AreRead (text : List ℕ) (pieces : List (List Piece)) : Type 0 where
  pub lines : map line_of (reading_of text).lines ≡ numbered 1 pieces
  pub well : (reading_of text).stop ≡ None

abbrev pub PrintedLinesAreRead : Type 0
PrintedLinesAreRead = (text : List ℕ) (pieces : List (List Piece)) → mark_length text ≡ 0 → HaveLines text pieces → AreRead text pieces
