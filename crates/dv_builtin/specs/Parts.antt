-- Parts of texts and of arrays of chars.
use Rattle.std.specs.Prelude.{ℕ, ◌+◌, List, length, take, drop, ℤ, pos, negsuc, Option, Some, None, slice_get, nat_le, if◌then◌else◌}

-- the unit at an index
abbrev pub unit_in : List ℕ → ℤ → Option ℕ
unit_in s (pos k) = slice_get s k
unit_in s (negsuc n) = None

-- count chars from start on
abbrev pub chars_in : List ℕ → ℤ → ℤ → Option (List ℕ)
chars_in ws (pos start) (pos count) = if nat_le (start + count) (length ws) then Some (take count (drop start ws)) else None
chars_in ws start count = None
