-- The pieces of a raw body's lines.
use Rattle.std.specs.Prelude.{◌≡◌, ℕ, suc, ◌%◌, ◌==◌, ◌||◌, Bool, true, false, List, [], ◌∷◌, ◌++◌, map, length, codes, decimal, Ok, if◌then◌else◌}
use Rattle.std.specs.List.{flat_map}
use Rattle.dv_defs.specs.declared.code.Handler.{Handler}
use Rattle.dv_defs.specs.declared.code.Try.{Try}
use Rattle.dv_defs.specs.declared.names.Ty.{Ty}
use Rattle.dv_defs.specs.Body.{BodyValue}
use Rattle.dv_names.specs.Descriptors.{descriptor}
use Rattle.dv_names.specs.Written.{hexadecimal, field_text, method_text}
use Rattle.dv_draft.specs.declared.draft.PoolRef.{PoolRef}
use Rattle.dv_draft.specs.declared.draft.PoolRef.TheVariants as pool
use Rattle.dv_print.specs.Drafting.{handler_type}
use Rattle.dv_print.specs.Raw.{caught_text, raw_text}
use Rattle.dv_coderead.specs.declared.raw_line.RawHandler.{RawHandler}
use Rattle.dv_coderead.specs.Heads.{head_of}
use Rattle.dv_coderead.specs.Kept.{counts}
use Rattle.dv_coderead.specs.Pieces.{Piece, AWord, AString}
use Rattle.dv_coderead.specs.RawBodies.{raw_body_from}
use Rattle.dv_classread.specs.declared.method.BodyKind.TheVariants as of_kind
use Rattle.dv_classread.specs.Methods.{kind_of}
use Rattle.dv_classread.specs.Texts.{ends_method, leaves_method}
use Rattle.law_listing.specs.Printed.{HaveLines, numbered}
use Rattle.law_listing.specs.RawListable.{IsListedRaw}

abbrev pub count_pieces : ℕ → List Piece
count_pieces n = AWord (codes ".registers") ∷ AWord (decimal n) ∷ []

-- ---- entries of the pools

-- strings, types, fields and methods
abbrev pub refs_of : BodyValue → List PoolRef
refs_of b = map pool.Str b.strings ++ (map pool.OfType b.types ++ (map pool.Field b.fields ++ map pool.Method b.methods))

abbrev pub ref_piece : PoolRef → List Piece
ref_piece pool.None = []
ref_piece (pool.Str units) = AString units ∷ []
ref_piece (pool.OfType ty) = AWord (descriptor ty) ∷ []
ref_piece (pool.Field field) = AWord (field_text field) ∷ []
ref_piece (pool.Method method) = AWord (method_text method) ∷ []

abbrev pub ref_pieces : PoolRef → List Piece
ref_pieces r = AWord (codes ".rawref") ∷ ref_piece r

-- ---- units

-- a unit in front of the first of these lines, or alone
abbrev pub with_unit : ℕ → List (List ℕ) → List (List ℕ)
with_unit u [] = (u ∷ []) ∷ []
with_unit u (us ∷ uss) = (u ∷ us) ∷ uss

-- whether a line ends behind the unit at place k, of so many in all: eight stand on a line
abbrev pub ends_line : ℕ → ℕ → Bool
ends_line k count = ((k % 8) == 7) || (suc k == count)

-- the units from place k on, line by line
unfoldable pub unit_lines : ℕ → ℕ → List ℕ → List (List ℕ)
unit_lines count k [] = []
unit_lines count k (u ∷ us) = if ends_line k count then (u ∷ []) ∷ unit_lines count (suc k) us else with_unit u (unit_lines count (suc k) us)

abbrev pub unit_piece : ℕ → Piece
unit_piece u = AWord (hexadecimal u)

abbrev pub unit_pieces : List ℕ → List Piece
unit_pieces us = map unit_piece us

abbrev pub units_pieces : List ℕ → List (List Piece)
units_pieces us = (AWord (codes ".units") ∷ []) ∷ (map unit_pieces (unit_lines (length us) 0 us) ++ (AWord (codes ".end") ∷ AWord (codes "units") ∷ []) ∷ [])

-- ---- handlers

-- as they are read
abbrev pub handler_in : List Ty → Try → Handler → RawHandler
handler_in types t h = record { start = t.start; end = t.end; at = h.at; kind = handler_type types h }

abbrev pub handlers_in : List Ty → Try → List RawHandler
handlers_in types t = map (handler_in types t) t.handlers

abbrev pub handlers_of : BodyValue → List RawHandler
handlers_of b = flat_map (handlers_in b.types) b.tries

abbrev pub handler_pieces : RawHandler → List Piece
handler_pieces h = AWord (codes ".rawtry") ∷ AWord (decimal h.start) ∷ AWord (decimal h.end) ∷ AWord (decimal h.at) ∷ AWord (caught_text h.kind) ∷ []

-- ---- the body

abbrev pub raw_pieces : BodyValue → List (List Piece)
raw_pieces b = count_pieces b.registers ∷ (map ref_pieces (refs_of b) ++ (units_pieces b.units ++ map handler_pieces (handlers_of b)))

-- a line that counts, and neither ends a method nor leaves one
pub record IsInside (ps : List Piece) : Type 0 where
  pub kept : counts 0 (head_of ps) ≡ true
  pub goes_on : ends_method (head_of ps) ≡ false
  pub stays : leaves_method (head_of ps) ≡ false

abbrev pub AreInside : List (List Piece) → Type 0
AreInside [] = Unit {0}
AreInside (ps ∷ pss) = IsInside ps × AreInside pss

-- the text of a raw body has these lines, which are told to be those of a raw body, and are read as this one
pub record IsReadAsRaw (b : BodyValue) : Type 0 where
  pub lines : HaveLines (raw_text b) (raw_pieces b)
  pub read : (past n : ℕ) → raw_body_from past 0 (numbered n (raw_pieces b)) ≡ Ok b
  pub raw : (n : ℕ) → kind_of (numbered n (raw_pieces b)) ≡ of_kind.Raw
  pub inside : AreInside (raw_pieces b)

abbrev pub RawBodiesAreRead : Type 0
RawBodiesAreRead = (b : BodyValue) → IsListedRaw b → IsReadAsRaw b
