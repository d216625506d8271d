-- The elements of fill-array-data, as numbers low byte first.
use Rattle.std.specs.Prelude.{◌≡◌, ◌≤◌, ◌^◌, ℕ, zero, suc, ◌+◌, ◌*◌, Bool, List, [], ◌∷◌, length, drop, slice_index, ℤ, Option, if◌then◌else◌}
use Rattle.dv_defs.specs.declared.code.Payload.{Payload}
use Rattle.dv_defs.specs.Numbers.{elements, hi_of, lo_of, signed_at}
use Rattle.dv_defs.specs.Tiling.{bytes_in}
use Rattle.dv_ops.specs.Meaning.{elements_in, width_in}
use Rattle.dv_words.specs.Words.{word_of}

-- so many bytes from a place on as a number, the low one first
abbrev pub number_at : List ℕ → ℕ → ℕ → ℕ
number_at bytes at zero = 0
number_at bytes at (suc n) = slice_index bytes at + 256 * number_at bytes (suc at) n

-- an element by its place
abbrev pub element_at : ℕ → List ℕ → ℕ → ℤ
element_at width units k = signed_at (8 * width) (number_at (bytes_in units) (k * width) width)

-- its words
abbrev pub words_of_number : Bool → ℤ → List ℕ
words_of_number wide n = if wide then lo_of n ∷ hi_of n ∷ [] else word_of n ∷ []

-- so many elements of so many bytes each, in units, are those of a payload
pub record AreElements (size count : ℕ) (units : List ℕ) (p : Option Payload) : Type 0 where
  pub width : size ≡ width_in p
  pub values : elements count size (bytes_in units) ≡ elements_in p
  pub whole : count * size ≤ 2 * length units

-- units begin with a payload of data: behind its mark its width, the number of elements, and these
pub record HasData (units : List ℕ) (p : Option Payload) : Type 0 where
  pub inside : 4 ≤ length units
  pub are : AreElements (slice_index units 1) (slice_index units 2 + slice_index units 3 * 2 ^ 16) (drop 4 units) p
