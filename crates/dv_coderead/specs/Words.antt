-- What a token means where a number, a string, a label or a register is due.
use Rattle.std.specs.Prelude.{ℕ, zero, suc, ◌+◌, ◌-◌, ◌&&◌, ℤ, Bool, List, [], ◌∷◌, ◌++◌, length, take, drop, slice_index, Option, Some, None, Result, Ok, Err, nat_lt, ◌==◌, if◌then◌else◌}
use Rattle.std.specs.List.{list_all}
use Rattle.std.specs.Str.{chars}
use Rattle.std.specs.Char.Escape.{encode_utf16}
use Rattle.dv_defs.specs.declared.faults.LineKind.{LineKind}
use Rattle.dv_defs.specs.declared.faults.LineKind.TheVariants.{NumberRange, Operands, RegisterRange}
use Rattle.dv_names.specs.Descriptors.{is_name}
use Rattle.dv_lex.specs.Bytes.{escape_length}
use Rattle.dv_lex.specs.Literals.{escape_unit}
use Rattle.dv_lex.specs.Numbers.{Number, is_decimal, is_digit, is_suffix, in_bits, value_from}
use Rattle.dv_coderead.specs.declared.words.Frame.{Frame}

-- ---- numbers

abbrev pub begins_with : ℕ → List ℕ → Bool
begins_with b [] = nat_lt 1 0
begins_with b (c ∷ cs) = c == b

-- the text without the suffix that it ends with, if it has one
abbrev pub without_suffix : List ℕ → List ℕ
without_suffix w = if nat_lt 0 (length w) && is_suffix (slice_index w (length w - 1) ∷ []) then take (length w - 1) w else w

-- a number's digits behind its sign and `0x`, with the suffix that may stand behind them
abbrev pub digits_in : Bool → Bool → List ℕ → Option Number
digits_in negative hexadecimal w =
    let digits = without_suffix w in
    if nat_lt 0 (length digits) && list_all (is_digit hexadecimal) digits
    then Some (record { negative = negative; hexadecimal = hexadecimal; digits = digits; suffix = drop (length digits) w })
    else None

abbrev pub unsigned_in : Bool → List ℕ → Option Number
unsigned_in negative w =
    let hexadecimal = begins_with 48 w && begins_with 120 (drop 1 w) in
    digits_in negative hexadecimal (if hexadecimal then drop 2 w else w)

-- the number that a text spells, if it spells one
unfoldable pub number_in : List ℕ → Option Number
number_in w = let negative = begins_with 45 w in unsigned_in negative (if negative then drop 1 w else w)

abbrev pub fitting : Option ℤ → Result ℤ LineKind
fitting None = Err NumberRange
fitting (Some z) = Ok z

abbrev pub number_of : ℕ → Option Number → Result ℤ LineKind
number_of bits None = Err Operands
number_of bits (Some n) = fitting (in_bits bits n)

-- a number that so many bits hold
unfoldable pub literal_in : ℕ → List ℕ → Result ℤ LineKind
literal_in bits w = number_of bits (number_in w)

-- ---- strings

-- the units of characters between quotes, but for the next so many characters, which are an escape's
unfoldable pub units_of : ℕ → List ℕ → List ℕ
units_of n [] = []
units_of (suc n) (c ∷ cs) = units_of n cs
units_of zero (c ∷ cs) = if c == 92 then escape_unit cs ∷ units_of (escape_length cs) cs else encode_utf16 c ++ units_of 0 cs

-- the units of a string literal, whose quotes stand at its ends
abbrev pub string_of : List ℕ → List ℕ
string_of w = units_of 0 (chars (take (length w - 2) (drop 1 w)))

-- ---- labels

-- a label's name behind its colon
unfoldable pub label_in : List ℕ → Result (List ℕ) LineKind
label_in w = if begins_with 58 w && is_name (drop 1 w) then Ok (drop 1 w) else Err Operands

-- ---- registers

-- the value of decimal digits, without sign or suffix
abbrev pub decimal_in : List ℕ → Option ℕ
decimal_in ds = if nat_lt 0 (length ds) && list_all is_decimal ds then Some (value_from 10 0 ds) else None

abbrev pub register_of : Option ℕ → Result ℕ LineKind
register_of None = Err Operands
register_of (Some n) = if nat_lt n 65536 then Ok n else Err RegisterRange

-- the register of an argument's word, which has this number; none before register 0
abbrev pub argument_of : Frame → Option ℕ → Result ℕ LineKind
argument_of frame None = Err Operands
argument_of frame (Some n) =
    if nat_lt (frame.registers + n) frame.arguments then Err RegisterRange
    else register_of (Some (frame.registers + n - frame.arguments))

-- `v` and a register's number, or `p` and the number of an argument's word
unfoldable pub register_in : Frame → List ℕ → Result ℕ LineKind
register_in frame w =
    if begins_with 118 w then register_of (decimal_in (drop 1 w))
    else if begins_with 112 w then argument_of frame (decimal_in (drop 1 w))
    else Err Operands
