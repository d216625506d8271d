-- The text of a raw body.
use Rattle.std.specs.Prelude.{ℕ, suc, ◌%◌, ◌==◌, ◌||◌, List, [], ◌∷◌, ◌++◌, length, codes, decimal, Option, Some, None, if◌then◌else◌}
use Rattle.std.specs.List.{flat_map}
use Rattle.dv_defs.specs.declared.code.Handler.{Handler}
use Rattle.dv_defs.specs.declared.code.Try.{Try}
use Rattle.dv_defs.specs.declared.names.Ty.{Ty}
use Rattle.dv_defs.specs.declared.names.FieldRef.{FieldRef}
use Rattle.dv_defs.specs.declared.names.MethodRef.{MethodRef}
use Rattle.dv_defs.specs.Body.{BodyValue}
use Rattle.dv_names.specs.Descriptors.{descriptor}
use Rattle.dv_names.specs.Written.{hexadecimal, string_text, field_text, method_text}
use Rattle.dv_print.specs.Drafting.{handler_type}
use Rattle.dv_print.specs.Draft.{registers_text}

-- an entry of a pool
abbrev pub ref_line : List ℕ → List ℕ
ref_line text = codes ".rawref " ++ text ++ codes "\n"

abbrev pub string_line : List ℕ → List ℕ
string_line chars = ref_line (string_text chars)

abbrev pub type_line : Ty → List ℕ
type_line ty = ref_line (descriptor ty)

abbrev pub field_ref_line : FieldRef → List ℕ
field_ref_line f = ref_line (field_text f)

abbrev pub method_ref_line : MethodRef → List ℕ
method_ref_line m = ref_line (method_text m)

-- the pools: strings, types, fields and methods
abbrev pub pools_text : BodyValue → List ℕ
pools_text b =
    flat_map string_line b.strings ++ flat_map type_line b.types ++
    flat_map field_ref_line b.fields ++ flat_map method_ref_line b.methods

-- what stands behind a unit: eight stand on a line
abbrev pub separator : ℕ → ℕ → ℕ
separator k count = if ((k % 8) == 7) || (suc k == count) then 10 else 32

-- the units from place k on, of so many in all
abbrev pub units_from : ℕ → ℕ → List ℕ → List ℕ
units_from count k [] = []
units_from count k (u ∷ us) = (hexadecimal u ++ separator k count ∷ []) ++ units_from count (suc k) us

abbrev pub units_text : List ℕ → List ℕ
units_text units = codes ".units\n" ++ units_from (length units) 0 units ++ codes ".end units\n"

abbrev pub caught_text : Option Ty → List ℕ
caught_text None = codes "all"
caught_text (Some ty) = descriptor ty

-- a handler: start, end and handler's address, and what it catches
abbrev pub handler_line : List Ty → Try → Handler → List ℕ
handler_line types t h =
    codes ".rawtry " ++ decimal t.start ++ codes " " ++ decimal t.end ++ codes " " ++ decimal h.at ++ codes " " ++
    caught_text (handler_type types h) ++ codes "\n"

abbrev pub try_lines : List Ty → Try → List ℕ
try_lines types t = flat_map (handler_line types t) t.handlers

abbrev pub raw_text : BodyValue → List ℕ
raw_text b = registers_text b.registers ++ pools_text b ++ units_text b.units ++ flat_map (try_lines b.types) b.tries
