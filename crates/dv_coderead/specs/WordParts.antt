-- What a word's digits are read as, and the registers of numbers.
use Rattle.std.specs.Prelude.{ℕ, ◌^◌, Bool, ◌&&◌, ℤ, pos, negsuc, List, length, Option, Some, None, Result, Ok, Err, nat_lt, if◌then◌else◌}
use Rattle.std.specs.List.{list_all}
use Rattle.dv_defs.specs.declared.faults.LineKind.{LineKind}
use Rattle.dv_defs.specs.declared.faults.LineKind.TheVariants.{Operands, RegisterRange}
use Rattle.dv_lex.specs.Numbers.{is_decimal}
use Rattle.dv_coderead.specs.Words.{register_of}

-- digits, one or more
abbrev pub are_decimal : List ℕ → Bool
are_decimal ds = nat_lt 0 (length ds) && list_all is_decimal ds

-- a number below 2^47; any other is that of no register, nor of an argument's word
abbrev pub short_decimal : Option ℕ → Result ℤ LineKind
short_decimal None = Err Operands
short_decimal (Some n) = if nat_lt n (2 ^ 47) then Ok (pos n) else Err RegisterRange

-- a number below 2^63; ten times any other, and a digit, is the number of no argument's word
abbrev pub few_tens : ℕ → Result ℤ LineKind
few_tens n = if nat_lt n (2 ^ 63) then Ok (pos n) else Err RegisterRange

-- the register of this number
abbrev pub register_at : ℤ → Result ℕ LineKind
register_at (pos n) = register_of (Some n)
register_at (negsuc n) = Err RegisterRange
