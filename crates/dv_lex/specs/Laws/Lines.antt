-- The laws of lines.
use Rattle.std.specs.Prelude.{◌≡◌, ℕ, Bool, true, nat_le, List, ◌∷◌, ◌++◌, map}
use Rattle.std.specs.List.{list_all}
use Rattle.std.specs.Str.Lines.{lines}
use Rattle.dv_lex.specs.Lines.{Row, rows_from}

abbrev pub bytes_in : Row → List ℕ
bytes_in r = r.bytes

abbrev pub RowsAreLines : Type 0
RowsAreLines = (n at : ℕ) (text : List ℕ) → map bytes_in (rows_from n at text) ≡ lines text

-- no control character
abbrev pub is_printed : ℕ → Bool
is_printed b = nat_le 32 b

-- a text without control characters, which a line feed ends, is one line
abbrev pub PrintedLinesAreLines : Type 0
PrintedLinesAreLines = (w rest : List ℕ) → list_all is_printed w ≡ true → lines (w ++ 10 ∷ rest) ≡ w ∷ lines rest
