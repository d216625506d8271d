-- Words of 32 bits, and the numbers that they are.
use Rattle.std.specs.Prelude.{ℕ, List, ℤ, slice_index_or}
use Rattle.std.specs.Int.{w32, cast_signed, cast_unsigned}

-- a word as an int, and an int as a word
abbrev pub int_of : ℕ → ℤ
int_of w = cast_signed w32 w

abbrev pub word_of : ℤ → ℕ
word_of n = cast_unsigned w32 n

-- 0 past the end
abbrev pub word_at : List ℕ → ℕ → ℕ
word_at ws k = slice_index_or ws k 0
