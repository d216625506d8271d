-- What the lines of a method say, each judged by what the lines before it told.
use Rattle.std.specs.Prelude.{◌≡◌, ℕ, ◌+◌, ◌*◌, ◌≤◌, ℤ, pos, negsuc, Bool, false, List, [], ◌∷◌, codes, bytes_eq, drop, Option, Some, None, Result, Ok, Err, nat_le, is_some, IsSome, IsTrue, if◌then◌else◌}
use Rattle.dv_defs.specs.declared.faults.LineKind.{LineKind}
use Rattle.dv_defs.specs.declared.faults.LineKind.TheVariants as kind
use Rattle.dv_defs.specs.declared.names.Ty.{Ty}
use Rattle.dv_defs.specs.Tiling.{is_width}
use Rattle.dv_draft.specs.declared.draft.Catch.{Catch}
use Rattle.dv_draft.specs.Draft.{IsOp}
use Rattle.dv_optable.specs.Table.{format_at}
use Rattle.dv_lex.specs.Numbers.{Number, signed}
use Rattle.dv_coderead.specs.declared.head.Block.TheVariants.{Packed, Sparse, Data, Units}
use Rattle.dv_coderead.specs.declared.head.Block.{Block}
use Rattle.dv_coderead.specs.declared.head.Directive.{Directive}
use Rattle.dv_coderead.specs.declared.head.Directive.TheVariants as directive
use Rattle.dv_coderead.specs.declared.head.Head.{Head}
use Rattle.dv_coderead.specs.declared.head.Head.TheVariants as head
use Rattle.dv_coderead.specs.declared.words.Frame.{Frame}
use Rattle.dv_coderead.specs.declared.body_line.Opening.{Opening}
use Rattle.dv_coderead.specs.declared.body_line.Opening.TheVariants as opening
use Rattle.dv_coderead.specs.declared.body_line.Context.{Context}
use Rattle.dv_coderead.specs.declared.body_line.BodyLine.{BodyLine}
use Rattle.dv_coderead.specs.declared.body_line.BodyLine.TheVariants as line
use Rattle.dv_coderead.specs.Giving.{◌>>=◌}
use Rattle.dv_coderead.specs.Pieces.{Piece, AWord}
use Rattle.dv_coderead.specs.Words.{number_in, literal_in, label_in}
use Rattle.dv_coderead.specs.References.{class_in}
use Rattle.dv_coderead.specs.Operands.{word_at, alone, mark_at, dots_at, after_first, ended, operands_in}
use Rattle.dv_coderead.specs.Heads.{head_of}

abbrev pub said : {A : Type 0} → (A → BodyLine) → Result A LineKind → Result BodyLine LineKind
said f (Ok x) = Ok (f x)
said f (Err k) = Err k

-- what a number is read as by its value, which has no bound
abbrev pub by_value : {A : Type 0} → (ℤ → Result A LineKind) → Option Number → Result A LineKind
by_value f None = Err kind.Operands
by_value f (Some n) = f (signed n)

-- ---- how many registers there are

-- so many, and as many more as these; 256 at most
abbrev pub count_from : ℕ → ℤ → Result ℕ LineKind
count_from more (pos n) = if nat_le (n + more) 256 then Ok (n + more) else Err kind.TooManyRegisters
count_from more (negsuc n) = Err kind.NumberRange

unfoldable pub count_in : ℕ → List ℕ → Result ℕ LineKind
count_in more w = by_value (count_from more) (number_in w)

abbrev pub framed : ℕ → Result ℕ LineKind → Result Frame LineKind
framed arguments (Ok n) = Ok (record { registers = n; arguments = arguments })
framed arguments (Err k) = Err k

-- a count of registers, with so many more
unfoldable pub frame_line : ℕ → ℕ → List Piece → Result Frame LineKind
frame_line arguments more ps = framed arguments (alone (word_at (count_in more) ps))

-- ---- labels and handlers

unfoldable pub label_line : List Piece → Result (List ℕ) LineKind
label_line ps = alone (word_at label_in ps)

-- `{`, where a range begins, `..`, where it ends, `}`, and the label of its handler
unfoldable pub handler_line : ℕ → Option Ty → List Piece → Result Catch LineKind
handler_line n ty ps = do
  inside ← mark_at 123 ps
  from ← word_at label_in inside
  dots ← dots_at from.1
  to ← word_at label_in dots
  outside ← mark_at 125 to.1
  at ← label_line outside
  Ok (record { line = n; kind = ty; from = from.0; to = to.0; at = at })

unfoldable pub catch_line : ℕ → List Piece → Result Catch LineKind
catch_line n ps = word_at class_in ps >>= λ class. handler_line n (Some class.0) class.1

-- ---- payloads

-- a number of 32 bits
unfoldable pub key_in : List ℕ → Result ℤ LineKind
key_in w = literal_in 32 w

-- how many bytes an element has: 1, 2, 4 or 8
abbrev pub width_from : ℤ → Result ℕ LineKind
width_from (pos n) = if is_width n then Ok n else Err kind.NumberRange
width_from (negsuc n) = Err kind.NumberRange

unfoldable pub width_in : List ℕ → Result ℕ LineKind
width_in w = by_value width_from (number_in w)

abbrev pub opened : {A : Type 0} → (A → Opening) → Result A LineKind → Result Opening LineKind
opened f (Ok x) = Ok (f x)
opened f (Err k) = Err k

unfoldable pub packed_begin : List Piece → Result Opening LineKind
packed_begin ps = opened opening.Packed (alone (word_at key_in ps))

unfoldable pub sparse_begin : List Piece → Result Opening LineKind
sparse_begin ps = opened (λ nothing. opening.Sparse) (ended ps)

unfoldable pub data_begin : List Piece → Result Opening LineKind
data_begin ps = opened opening.Data (alone (word_at width_in ps))

-- the first line of a payload
abbrev pub begin_line : Block → List Piece → Result Opening LineKind
begin_line Packed ps = packed_begin ps
begin_line Sparse ps = sparse_begin ps
begin_line Data ps = data_begin ps
begin_line Units ps = Err kind.Misplaced

-- the arrow between a key and its label
abbrev pub arrow_at : List Piece → Result (List Piece) LineKind
arrow_at (AWord w ∷ ps) = if bytes_eq w (codes "->") then Ok ps else Err kind.Operands
arrow_at ps = Err kind.Operands

abbrev pub Case : Type 0
Case = ℤ × List ℕ

unfoldable pub case_line : List Piece → Result Case LineKind
case_line ps = do
  key ← word_at key_in ps
  arrow ← arrow_at key.1
  label ← label_line arrow
  Ok (key.0, label)

-- an element of so many bytes
abbrev pub element_in : ℕ → Piece → Result ℤ LineKind
element_in width (AWord w) = literal_in (8 * width) w
element_in width p = Err kind.Operands

abbrev pub and_element : ℤ → Result (List ℤ) LineKind → Result (List ℤ) LineKind
and_element z (Ok zs) = Ok (z ∷ zs)
and_element z (Err k) = Err k

-- elements, up to the end of the line
unfoldable pub elements_in : ℕ → List Piece → Result (List ℤ) LineKind
elements_in width [] = Ok []
elements_in width (p ∷ ps) = element_in width p >>= λ z. and_element z (elements_in width ps)

-- ---- lines that may not stand where they stand

-- a line that closes or leaves a method leaves its blocks unfinished; other lines that are known are misplaced
abbrev pub directive_refusal : Directive → LineKind
directive_refusal directive.EndMethod = kind.Missing
directive_refusal directive.Method = kind.Missing
directive_refusal directive.Class = kind.Missing
directive_refusal directive.Schedule = kind.Missing
directive_refusal directive.OtherEnd = kind.Operands
directive_refusal directive.Other = kind.UnknownDirective
directive_refusal d = kind.Misplaced

abbrev pub refusal_of : Head → LineKind
refusal_of (head.Directive d) = directive_refusal d
refusal_of head.Float = kind.FloatInsn
refusal_of head.Other = kind.UnknownInsn
refusal_of h = kind.Misplaced

-- ---- lines of a method

-- the count of registers is told once: `.registers` counts all of them, `.locals` those that hold no argument
abbrev pub registers_line : Option Frame → ℕ → ℕ → List Piece → Result BodyLine LineKind
registers_line None arguments more ps = said line.Registers (frame_line arguments more ps)
registers_line (Some f) arguments more ps = Err kind.Repeated

abbrev pub directive_line : ℕ → Option Frame → ℕ → Directive → List Piece → Result BodyLine LineKind
directive_line arguments frame n directive.Registers ps = registers_line frame arguments 0 ps
directive_line arguments frame n directive.Locals ps = registers_line frame arguments arguments ps
directive_line arguments frame n directive.Catch ps = said line.Handler (catch_line n ps)
directive_line arguments frame n directive.Catchall ps = said line.Handler (handler_line n None ps)
directive_line arguments frame n (directive.Begin b) ps = said line.Begin (begin_line b ps)
directive_line arguments frame n d ps = Err (directive_refusal d)

-- labels and instructions stand behind the count of registers
abbrev pub method_line : ℕ → Option Frame → ℕ → Head → List Piece → Result BodyLine LineKind
method_line arguments frame n (head.Directive d) ps = directive_line arguments frame n d (after_first ps)
method_line arguments (Some f) n head.Label ps = said line.Label (label_line ps)
method_line arguments (Some f) n (head.Opcode op) ps = said line.Op (operands_in f op (after_first ps))
method_line arguments frame n h ps = Err (refusal_of h)

-- the last line of a block
abbrev pub end_line : List Piece → Result BodyLine LineKind
end_line ps = said (λ nothing. line.End) (ended (drop 2 ps))

abbrev pub packed_line : Head → List Piece → Result BodyLine LineKind
packed_line head.Label ps = said line.Target (label_line ps)
packed_line (head.Directive (directive.End Packed)) ps = end_line ps
packed_line h ps = Err (refusal_of h)

abbrev pub begins_with_number : List Piece → Bool
begins_with_number (AWord w ∷ ps) = is_some (number_in w)
begins_with_number ps = false

abbrev pub sparse_line : Head → List Piece → Result BodyLine LineKind
sparse_line head.Other ps = if begins_with_number ps then said (λ c. line.Case c.0 c.1) (case_line ps) else Err kind.UnknownInsn
sparse_line (head.Directive (directive.End Sparse)) ps = end_line ps
sparse_line h ps = Err (refusal_of h)

abbrev pub data_line : ℕ → Head → List Piece → Result BodyLine LineKind
data_line width head.Other ps = if begins_with_number ps then said line.Elements (elements_in width ps) else Err kind.UnknownInsn
data_line width (head.Directive (directive.End Data)) ps = end_line ps
data_line width h ps = Err (refusal_of h)

-- a line by the block in which it stands
abbrev pub line_in : ℕ → Option Frame → ℕ → Option Opening → Head → List Piece → Result BodyLine LineKind
line_in arguments frame n None h ps = method_line arguments frame n h ps
line_in arguments frame n (Some (opening.Packed first)) h ps = packed_line h ps
line_in arguments frame n (Some opening.Sparse) h ps = sparse_line h ps
line_in arguments frame n (Some (opening.Data width)) h ps = data_line width h ps

-- what the line of this number says, in a method with so many argument words
unfoldable pub body_line : ℕ → Context → ℕ → List Piece → Result BodyLine LineKind
body_line arguments before n ps = line_in arguments before.frame n before.block (head_of ps) ps

-- ---- what calls keep

-- an array's elements have a width that there is
abbrev pub HasWidth : Opening → Type 0
HasWidth (opening.Data width) = IsTrue (is_width width)
HasWidth o = Unit {0}

-- an opcode of the table
abbrev pub IsHead : Head → Type 0
IsHead (head.Opcode op) = IsSome (format_at op)
IsHead h = Unit {0}

-- an instruction has the form of its format, and elements a width that there is
abbrev pub IsLine : BodyLine → Type 0
IsLine (line.Op op) = IsOp op
IsLine (line.Begin o) = HasWidth o
IsLine (line.Registers f) = f.registers ≤ 256
IsLine l = Unit {0}

-- a line of a block stands in a block of its kind
abbrev pub StandsIn : Option Opening → BodyLine → Type 0
StandsIn block (line.Target name) = (first : ℤ) × (block ≡ Some (opening.Packed first))
StandsIn block (line.Case key name) = block ≡ Some opening.Sparse
StandsIn block (line.Elements zs) = (width : ℕ) × (block ≡ Some (opening.Data width))
StandsIn block line.End = IsSome block
StandsIn block l = block ≡ None
