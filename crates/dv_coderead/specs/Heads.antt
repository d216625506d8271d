-- What a line is, by its first word; by the first two where the first is `.end` or `.restart`.
use Rattle.std.specs.Prelude.{ℕ, ◌||◌, Bool, List, [], ◌∷◌, codes, drop, bytes_eq, Option, Some, None, ◌==◌, if◌then◌else◌}
use Rattle.std.specs.List.{list_any, slice_split}
use Rattle.dv_names.specs.Descriptors.{is_name}
use Rattle.dv_optable.specs.Table.{opcode_named}
use Rattle.dv_coderead.specs.declared.head.Block.TheVariants.{Packed, Sparse, Data, Units}
use Rattle.dv_coderead.specs.declared.head.Directive.{Directive}
use Rattle.dv_coderead.specs.declared.head.Directive.TheVariants as directive
use Rattle.dv_coderead.specs.declared.head.Head.{Head}
use Rattle.dv_coderead.specs.declared.head.Head.TheVariants as head
use Rattle.dv_coderead.specs.Pieces.{Piece, AWord}
use Rattle.dv_coderead.specs.Words.{begins_with}

-- ---- directives

-- the lines of a class
unfoldable pub class_directive : List ℕ → Option Directive
class_directive w =
    if bytes_eq w (codes ".class") then Some directive.Class
    else if bytes_eq w (codes ".super") then Some directive.Super
    else if bytes_eq w (codes ".source") then Some directive.Source
    else if bytes_eq w (codes ".implements") then Some directive.Implements
    else if bytes_eq w (codes ".field") then Some directive.Field
    else if bytes_eq w (codes ".method") then Some directive.Method
    else if bytes_eq w (codes ".schedule") then Some directive.Schedule
    else None

-- the lines of a method
unfoldable pub method_directive : List ℕ → Option Directive
method_directive w =
    if bytes_eq w (codes ".registers") then Some directive.Registers
    else if bytes_eq w (codes ".locals") then Some directive.Locals
    else if bytes_eq w (codes ".catch") then Some directive.Catch
    else if bytes_eq w (codes ".catchall") then Some directive.Catchall
    else if bytes_eq w (codes ".packed-switch") then Some (directive.Begin Packed)
    else if bytes_eq w (codes ".sparse-switch") then Some (directive.Begin Sparse)
    else if bytes_eq w (codes ".array-data") then Some (directive.Begin Data)
    else None

-- the lines of a raw body
unfoldable pub raw_directive : List ℕ → Option Directive
raw_directive w =
    if bytes_eq w (codes ".rawref") then Some directive.Rawref
    else if bytes_eq w (codes ".units") then Some (directive.Begin Units)
    else if bytes_eq w (codes ".rawtry") then Some directive.Rawtry
    else None

-- lines that are passed over
unfoldable pub is_skipped : List ℕ → Bool
is_skipped w =
    bytes_eq w (codes ".line") || (bytes_eq w (codes ".prologue") || (bytes_eq w (codes ".epilogue")
    || (bytes_eq w (codes ".local") || bytes_eq w (codes ".param"))))

unfoldable pub skipped_directive : List ℕ → Option Directive
skipped_directive w =
    if bytes_eq w (codes ".annotation") then Some directive.Annotation
    else if is_skipped w then Some directive.Skipped
    else None

-- whether such a word behind `.end` ends something that is passed over
abbrev pub ends_skipped : List ℕ → Bool
ends_skipped w = bytes_eq w (codes "local") || (bytes_eq w (codes "param") || bytes_eq w (codes "field"))

-- what it ends, if it is no method and no block of an instruction
abbrev pub ended_outside : List ℕ → Directive
ended_outside w =
    if bytes_eq w (codes "units") then directive.End Units
    else if bytes_eq w (codes "schedule") then directive.EndSchedule
    else if bytes_eq w (codes "annotation") then directive.EndAnnotation
    else if ends_skipped w then directive.Skipped
    else directive.OtherEnd

-- what such a word behind `.end` ends
unfoldable pub ended_by : List ℕ → Directive
ended_by w =
    if bytes_eq w (codes "method") then directive.EndMethod
    else if bytes_eq w (codes "packed-switch") then directive.End Packed
    else if bytes_eq w (codes "sparse-switch") then directive.End Sparse
    else if bytes_eq w (codes "array-data") then directive.End Data
    else ended_outside w

abbrev pub end_of : Option (List ℕ) → Directive
end_of None = directive.OtherEnd
end_of (Some w) = ended_by w

abbrev pub restart_of : Option (List ℕ) → Directive
restart_of None = directive.OtherEnd
restart_of (Some w) = if bytes_eq w (codes "local") then directive.Skipped else directive.OtherEnd

unfoldable pub two_word_directive : List ℕ → Option (List ℕ) → Directive
two_word_directive w second =
    if bytes_eq w (codes ".end") then end_of second
    else if bytes_eq w (codes ".restart") then restart_of second
    else directive.Other

abbrev pub or_else : Option Directive → Directive → Directive
or_else None d = d
or_else (Some d) e = d

-- a directive by its word, and by the word behind it where there is one
unfoldable pub directive_of : List ℕ → Option (List ℕ) → Directive
directive_of w second =
    or_else (class_directive w) (or_else (method_directive w) (or_else (raw_directive w) (or_else (skipped_directive w) (two_word_directive w second))))

-- ---- instructions

-- the instructions on floats and doubles
abbrev pub float_names : List ℕ
float_names = codes "cmpl-float cmpg-float cmpl-double cmpg-double neg-float neg-double int-to-float int-to-double long-to-float long-to-double float-to-int float-to-long float-to-double double-to-int double-to-long double-to-float add-float sub-float mul-float div-float rem-float add-double sub-double mul-double div-double rem-double add-float/2addr sub-float/2addr mul-float/2addr div-float/2addr rem-float/2addr add-double/2addr sub-double/2addr mul-double/2addr div-double/2addr rem-double/2addr"

abbrev pub is_blank : ℕ → Bool
is_blank b = b == 32

abbrev pub is_float_name : List ℕ → Bool
is_float_name w = list_any (λ name. bytes_eq name w) (slice_split is_blank float_names)

abbrev pub insn_head : Option ℕ → List ℕ → Head
insn_head (Some op) w = head.Opcode op
insn_head None w = if is_float_name w then head.Float else head.Other

-- ---- lines

-- behind a colon: a label where a name stands there
abbrev pub colon_head : List ℕ → Head
colon_head w = if is_name w then head.Label else head.Other

abbrev pub word_head : List ℕ → Option (List ℕ) → Head
word_head w second =
    if begins_with 46 w then head.Directive (directive_of w second)
    else if begins_with 58 w then colon_head (drop 1 w)
    else insn_head (opcode_named w) w

abbrev pub first_word : List Piece → Option (List ℕ)
first_word (AWord w ∷ ps) = Some w
first_word ps = None

unfoldable pub head_of : List Piece → Head
head_of [] = head.Blank
head_of (AWord w ∷ ps) = word_head w (first_word ps)
head_of (p ∷ ps) = head.Other
