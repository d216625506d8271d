-- The body that the lines of a method give.
use Rattle.std.specs.Prelude.{ℕ, ◌+◌, ◌^◌, ◌<◌, ◌&&◌, ℤ, Bool, List, [], ◌∷◌, ◌++◌, take, Option, Some, None, is_some, not, Result, Ok, Err, nat_eq, if◌then◌else◌}
use Rattle.std.specs.Int.{w64, to_le_bytes}
use Rattle.std.specs.List.{flat_map}
use Rattle.dv_defs.specs.declared.faults.LineKind.TheVariants.{Missing}
use Rattle.dv_defs.specs.declared.names.Proto.{Proto}
use Rattle.dv_defs.specs.Numbers.{bits64}
use Rattle.dv_defs.specs.Types.{words_of_all}
use Rattle.dv_draft.specs.declared.draft.Item.{Item}
use Rattle.dv_draft.specs.declared.draft.Catch.{Catch}
use Rattle.dv_draft.specs.declared.draft.What.{What}
use Rattle.dv_draft.specs.declared.draft.What.TheVariants as what
use Rattle.dv_draft.specs.Draft.{DraftValue}
use Rattle.dv_lex.specs.declared.line.Stop.{Stop}
use Rattle.dv_lex.specs.declared.line.Line.{Line}
use Rattle.dv_coderead.specs.declared.words.Frame.{Frame}
use Rattle.dv_coderead.specs.declared.body_line.Opening.{Opening}
use Rattle.dv_coderead.specs.declared.body_line.Opening.TheVariants as opening
use Rattle.dv_coderead.specs.declared.body_line.Context.{Context}
use Rattle.dv_coderead.specs.declared.body_line.BodyLine.{BodyLine}
use Rattle.dv_coderead.specs.declared.body_line.BodyLine.TheVariants as line
use Rattle.dv_coderead.specs.Giving.{◌>>>◌, on_line}
use Rattle.dv_coderead.specs.Kept.{TextLine, kept, open_behind}
use Rattle.dv_coderead.specs.BodyLines.{body_line}

-- ---- what lines say

-- what a line says, by the line's number
pub record Told : Type 0 where
  pub number : ℕ
  pub says : BodyLine

-- before the first line
abbrev pub nothing_before : Context
nothing_before = record { frame = None; block = None }

-- what the lines before have told, one line further
abbrev pub told_next : Context → BodyLine → Context
told_next c (line.Registers f) = record { frame = Some f; block = c.block }
told_next c (line.Begin o) = record { frame = c.frame; block = Some o }
told_next c line.End = record { frame = c.frame; block = None }
told_next c l = c

abbrev pub and_told : ℕ → BodyLine → Result (List Told) Stop → Result (List Told) Stop
and_told n s (Ok ts) = Ok (record { number = n; says = s } ∷ ts)
and_told n s (Err e) = Err e

-- what these lines say, each judged by those before it; or the first bad line
unfoldable pub told_by : ℕ → Context → List TextLine → Result (List Told) Stop
told_by arguments before [] = Ok []
told_by arguments before (l ∷ ls) =
    on_line l.number (body_line arguments before l.number l.pieces) >>> λ s. and_told l.number s (told_by arguments (told_next before s) ls)

-- what all of them have told
unfoldable pub told_behind : Context → List Told → Context
told_behind c [] = c
told_behind c (t ∷ ts) = told_behind (told_next c t.says) ts

-- ---- payloads: the lines that stand behind their first

-- the labels of a packed switch
abbrev pub target_of : BodyLine → List (List ℕ) → List (List ℕ)
target_of (line.Target name) names = name ∷ names
target_of l names = []

unfoldable pub targets : List Told → List (List ℕ)
targets [] = []
targets (t ∷ ts) = target_of t.says (targets ts)

-- the keys of a sparse switch, and their labels
abbrev pub key_of : BodyLine → List ℤ → List ℤ
key_of (line.Case key name) keys = key ∷ keys
key_of l keys = []

unfoldable pub keys : List Told → List ℤ
keys [] = []
keys (t ∷ ts) = key_of t.says (keys ts)

abbrev pub case_label_of : BodyLine → List (List ℕ) → List (List ℕ)
case_label_of (line.Case key name) names = name ∷ names
case_label_of l names = []

unfoldable pub case_labels : List Told → List (List ℕ)
case_labels [] = []
case_labels (t ∷ ts) = case_label_of t.says (case_labels ts)

-- the bytes of an element of an array, the low byte first
abbrev pub element_bytes : ℕ → ℤ → List ℕ
element_bytes width z = take width (to_le_bytes w64 (bits64 z))

abbrev pub bytes_of : ℕ → BodyLine → List ℕ → List ℕ
bytes_of width (line.Elements zs) bytes = flat_map (element_bytes width) zs ++ bytes
bytes_of width l bytes = []

-- the bytes of an array's elements, line by line
unfoldable pub data_bytes : ℕ → List Told → List ℕ
data_bytes width [] = []
data_bytes width (t ∷ ts) = bytes_of width t.says (data_bytes width ts)

abbrev pub payload_of : Opening → List Told → What
payload_of (opening.Packed first) ts = what.Packed first (targets ts)
payload_of opening.Sparse ts = what.Sparse (keys ts) (case_labels ts)
payload_of (opening.Data width) ts = what.Data width (data_bytes width ts)

-- ---- the draft

-- the item that a line gives or begins, before these lines
abbrev pub item_of : BodyLine → List Told → Option What
item_of (line.Label name) ts = Some (what.Label name)
item_of (line.Op op) ts = Some (what.Op op)
item_of (line.Begin o) ts = Some (payload_of o ts)
item_of l ts = None

abbrev pub and_item : ℕ → Option What → List Item → List Item
and_item n None items = items
and_item n (Some w) items = record { line = n; what = w } ∷ items

unfoldable pub items_of : List Told → List Item
items_of [] = []
items_of (t ∷ ts) = and_item t.number (item_of t.says ts) (items_of ts)

abbrev pub and_catch : BodyLine → List Catch → List Catch
and_catch (line.Handler c) catches = c ∷ catches
and_catch l catches = catches

unfoldable pub catches_of : List Told → List Catch
catches_of [] = []
catches_of (t ∷ ts) = and_catch t.says (catches_of ts)

-- a body has a count of registers, and no block is left open
abbrev pub is_whole : Context → ℕ → Bool
is_whole c annotations = is_some c.frame && not (is_some c.block) && nat_eq annotations 0

abbrev pub registers_of : Option Frame → ℕ
registers_of None = 0
registers_of (Some f) = f.registers

abbrev pub draft_of : Context → List Told → DraftValue
draft_of c ts = record { registers = registers_of c.frame; items = items_of ts; catches = catches_of ts }

-- what is missing is missed on the line behind the last
abbrev pub finished : ℕ → ℕ → Context → List Told → Result DraftValue Stop
finished past annotations c ts = if is_whole c annotations then Ok (draft_of c ts) else Err (record { line = past; kind = Missing })

-- the number of the line behind these
unfoldable pub number_behind : List TextLine → ℕ
number_behind [] = 1
number_behind (l ∷ []) = l.number + 1
number_behind (l ∷ m ∷ ls) = number_behind (m ∷ ls)

-- a line has a number behind it
abbrev pub HasNext : Line → Type 0
HasNext l = l.number + 1 < 2 ^ 32

-- the body of the lines that count, in a method with so many argument words; or the first bad line
abbrev pub body_from : ℕ → ℕ → ℕ → List TextLine → Result DraftValue Stop
body_from arguments past annotations ls = told_by arguments nothing_before ls >>> λ ts.
    finished past annotations (told_behind nothing_before ts) ts

-- the body of these lines
unfoldable pub body_of : ℕ → List TextLine → Result DraftValue Stop
body_of arguments ls = body_from arguments (number_behind ls) (open_behind 0 ls) (kept 0 ls)

-- how many words the arguments of a method have, its receiver among them
abbrev pub argument_words : Proto → Bool → ℕ
argument_words p is_static = (if is_static then 0 else 1) + words_of_all p.params
