-- What the lines of a raw body say, each judged by where it stands.
use Rattle.std.specs.Prelude.{ℕ, ◌+◌, ◌≤◌, ◌^◌, ◌&&◌, ℤ, pos, negsuc, Bool, true, false, List, [], ◌∷◌, codes, bytes_eq, length, Option, Some, None, Result, Ok, Err, nat_le, nat_lt, is_some, ◌==◌, if◌then◌else◌}
use Rattle.std.specs.List.{list_all}
use Rattle.dv_defs.specs.declared.faults.LineKind.{LineKind}
use Rattle.dv_defs.specs.declared.faults.LineKind.TheVariants as kind
use Rattle.dv_defs.specs.declared.names.Ty.{Ty}
use Rattle.dv_draft.specs.declared.draft.PoolRef.{PoolRef}
use Rattle.dv_draft.specs.declared.draft.PoolRef.TheVariants as pool
use Rattle.dv_lex.specs.Bytes.{is_hexadecimal}
use Rattle.dv_lex.specs.Numbers.{value_from}
use Rattle.dv_coderead.specs.declared.head.Block.TheVariants.{Units}
use Rattle.dv_coderead.specs.declared.head.Directive.TheVariants as directive
use Rattle.dv_coderead.specs.declared.head.Head.{Head}
use Rattle.dv_coderead.specs.declared.head.Head.TheVariants as head
use Rattle.dv_coderead.specs.declared.raw_line.RawPlace.{RawPlace}
use Rattle.dv_coderead.specs.declared.raw_line.RawPlace.TheVariants as place
use Rattle.dv_coderead.specs.declared.raw_line.RawHandler.{RawHandler}
use Rattle.dv_coderead.specs.declared.raw_line.RawLine.{RawLine}
use Rattle.dv_coderead.specs.declared.raw_line.RawLine.TheVariants as line
use Rattle.dv_coderead.specs.Giving.{◌>>=◌}
use Rattle.dv_coderead.specs.Pieces.{Piece, AWord, AString}
use Rattle.dv_coderead.specs.Words.{number_in}
use Rattle.dv_coderead.specs.References.{type_in, field_in, method_in, cut_at, cut_at_arrow}
use Rattle.dv_coderead.specs.Operands.{Part, word_at, alone, after_first, ended, and_behind, as_entry}
use Rattle.dv_coderead.specs.Heads.{head_of}
use Rattle.dv_coderead.specs.BodyLines.{by_value, count_in, refusal_of}
use Rattle.dv_defs.specs.Body.{most_units}

abbrev pub raw_said : {A : Type 0} → (A → RawLine) → Result A LineKind → Result RawLine LineKind
raw_said f (Ok x) = Ok (f x)
raw_said f (Err k) = Err k

-- ---- entries of pools

-- a method where a parenthesis stands behind the arrow, else a field
abbrev pub member_in : List ℕ → List ℕ → Result PoolRef LineKind
member_in w member = if is_some (cut_at 40 member) then as_entry pool.Method (method_in w) else as_entry pool.Field (field_in w)

-- a reference where there is an arrow, else a type
abbrev pub by_arrow : List ℕ → Option (List ℕ × List ℕ) → Result PoolRef LineKind
by_arrow w None = as_entry pool.OfType (type_in w)
by_arrow w (Some parts) = member_in w parts.1

unfoldable pub entry_by_shape : Piece → Result PoolRef LineKind
entry_by_shape (AString units) = Ok (pool.Str units)
entry_by_shape (AWord w) = by_arrow w (cut_at_arrow w)
entry_by_shape p = Err kind.Operands

abbrev pub entry_here : List Piece → Part PoolRef
entry_here [] = Err kind.Operands
entry_here (p ∷ ps) = and_behind ps (entry_by_shape p)

unfoldable pub entry_line : List Piece → Result PoolRef LineKind
entry_line ps = alone (entry_here ps)

-- ---- units

-- four hexadecimal digits
abbrev pub is_unit : List ℕ → Bool
is_unit w = (length w == 4) && list_all is_hexadecimal w

abbrev pub and_unit : ℕ → Result (List ℕ) LineKind → Result (List ℕ) LineKind
and_unit u (Ok us) = Ok (u ∷ us)
and_unit u (Err k) = Err k

-- units, up to the end of the line
unfoldable pub units_in : List Piece → Result (List ℕ) LineKind
units_in [] = Ok []
units_in (AWord w ∷ ps) = if is_unit w then and_unit (value_from 16 0 w) (units_in ps) else Err kind.Operands
units_in (p ∷ ps) = Err kind.Operands

-- with so many units before them: 16,384 at most
abbrev pub few_units : ℕ → List ℕ → Result (List ℕ) LineKind
few_units before us = if nat_le (before + length us) most_units then Ok us else Err kind.TooLong

unfoldable pub units_line : ℕ → List Piece → Result (List ℕ) LineKind
units_line before ps = units_in ps >>= few_units before

abbrev pub begins_with_unit : List Piece → Bool
begins_with_unit (AWord w ∷ ps) = is_unit w
begins_with_unit ps = false

-- ---- handlers

-- a number from 0 up, of 32 bits
abbrev pub address_from : ℤ → Result ℕ LineKind
address_from (pos n) = if nat_lt n (2 ^ 32) then Ok n else Err kind.NumberRange
address_from (negsuc n) = Err kind.NumberRange

unfoldable pub address_in : List ℕ → Result ℕ LineKind
address_in w = by_value address_from (number_in w)

abbrev pub some_type : Result Ty LineKind → Result (Option Ty) LineKind
some_type (Ok t) = Ok (Some t)
some_type (Err k) = Err k

-- `all`, or the type of exceptions that a handler catches
unfoldable pub caught_in : List ℕ → Result (Option Ty) LineKind
caught_in w = if bytes_eq w (codes "all") then Ok None else some_type (type_in w)

-- where the range begins and ends, the handler's address, and what it catches
unfoldable pub raw_handler_line : List Piece → Result RawHandler LineKind
raw_handler_line ps = do
  start ← word_at address_in ps
  end ← word_at address_in start.1
  at ← word_at address_in end.1
  caught ← alone (word_at caught_in at.1)
  Ok (record { start = start.0; end = end.0; at = at.0; kind = caught })

-- ---- lines

abbrev pub raw_registers_line : List Piece → Result ℕ LineKind
raw_registers_line ps = alone (word_at (count_in 0) ps)

-- before the count of registers
abbrev pub start_line : Head → List Piece → Result RawLine LineKind
start_line (head.Directive directive.Registers) ps = raw_said line.Registers (raw_registers_line (after_first ps))
start_line h ps = Err (refusal_of h)

-- the count of registers, told again
abbrev pub is_count : Head → Bool
is_count (head.Directive directive.Registers) = true
is_count (head.Directive directive.Locals) = true
is_count h = false

abbrev pub again_or_refused : Head → LineKind
again_or_refused h = if is_count h then kind.Repeated else refusal_of h

-- behind it: entries of the pools, and the first line of the units
abbrev pub pools_line : Head → List Piece → Result RawLine LineKind
pools_line (head.Directive directive.Rawref) ps = raw_said line.Entry (entry_line (after_first ps))
pools_line (head.Directive (directive.Begin Units)) ps = raw_said (λ nothing. line.Begin) (ended (after_first ps))
pools_line h ps = Err (again_or_refused h)

-- among the units, with so many before
abbrev pub among_units : ℕ → Head → List Piece → Result RawLine LineKind
among_units before (head.Directive (directive.End Units)) ps = raw_said (λ nothing. line.End) (ended (after_first (after_first ps)))
among_units before h ps = if begins_with_unit ps then raw_said line.Units (units_line before ps) else Err (refusal_of h)

-- behind the units: handlers
abbrev pub last_line : Head → List Piece → Result RawLine LineKind
last_line (head.Directive directive.Rawtry) ps = raw_said line.Handler (raw_handler_line (after_first ps))
last_line (head.Directive (directive.Begin Units)) ps = Err kind.Repeated
last_line h ps = Err (again_or_refused h)

abbrev pub raw_line_in : RawPlace → Head → List Piece → Result RawLine LineKind
raw_line_in place.Start h ps = start_line h ps
raw_line_in place.Pools h ps = pools_line h ps
raw_line_in (place.Units before) h ps = among_units before h ps
raw_line_in place.Behind h ps = last_line h ps

-- what a line of a raw body says that stands there
unfoldable pub raw_line : RawPlace → List Piece → Result RawLine LineKind
raw_line p ps = raw_line_in p (head_of ps) ps

-- ---- what calls keep

abbrev pub AreFew : RawPlace → Type 0
AreFew (place.Units before) = before ≤ most_units
AreFew p = Unit {0}

-- a line says what may stand there
abbrev pub IsRawLine : RawPlace → RawLine → Type 0
IsRawLine place.Start (line.Registers n) = n ≤ 256
IsRawLine place.Pools (line.Entry r) = Unit {0}
IsRawLine place.Pools line.Begin = Unit {0}
IsRawLine (place.Units before) (line.Units us) = before + length us ≤ most_units
IsRawLine (place.Units before) line.End = Unit {0}
IsRawLine place.Behind (line.Handler h) = Unit {0}
IsRawLine p l = ⊥
