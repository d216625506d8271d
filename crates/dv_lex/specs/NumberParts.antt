-- A number's text that is cut into its parts.
use Rattle.std.specs.Prelude.{◌≡◌, ◌<◌, ℕ, true, List, length}
use Rattle.std.specs.List.{list_all}
use Rattle.dv_lex.specs.declared.numbers.Parts.{Parts}
use Rattle.dv_lex.specs.Numbers.{Number, spelling, is_digit, is_suffix}

-- the number of these parts
abbrev pub number_of : Parts → List ℕ → Number
number_of p suffix = record { negative = p.negative; hexadecimal = p.hexadecimal; digits = p.digits.now; suffix = suffix }

-- the text is these parts and a suffix or none
abbrev pub IsCut : List ℕ → Parts → Type 0
IsCut text p = (w : List ℕ) × (is_suffix w ≡ true) × (text ≡ spelling (number_of p w))

-- some digits, each of the base
abbrev pub HasDigits : Parts → Type 0
HasDigits p = (0 < length p.digits.now) × (list_all (is_digit p.hexadecimal) p.digits.now ≡ true)
