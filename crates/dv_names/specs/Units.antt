-- Texts in units of UTF-16.
use Rattle.std.specs.Prelude.{ℕ, List}
use Rattle.std.specs.List.{flat_map}
use Rattle.std.specs.Str.{chars}
use Rattle.std.specs.Char.Escape.{encode_utf16}

-- the units of a text's characters
abbrev pub units_of : List ℕ → List ℕ
units_of text = flat_map encode_utf16 (chars text)
