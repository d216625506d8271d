-- The pieces of an instruction's line: its name, and its operands with commas between.
use Rattle.std.specs.Prelude.{◌≡◌, ℕ, ◌+◌, ◌-◌, nat_eq, List, [], ◌∷◌, ◌++◌, map, codes, slice_index, Option, option_map, Ok, if◌then◌else◌}
use Rattle.std.specs.Option.{option_to_list}
use Rattle.std.specs.List.{join_by}
use Rattle.dv_defs.specs.declared.code.Insn.{Insn}
use Rattle.dv_defs.specs.declared.code.Regs.{Regs}
use Rattle.dv_names.specs.Descriptors.{descriptor}
use Rattle.dv_names.specs.Written.{field_text, method_text}
use Rattle.dv_draft.specs.declared.draft.Draftop.{Draftop}
use Rattle.dv_draft.specs.declared.draft.PoolRef.{PoolRef}
use Rattle.dv_draft.specs.declared.draft.PoolRef.TheVariants as pool
use Rattle.dv_print.specs.declared.formats.Form.{Form}
use Rattle.dv_print.specs.declared.formats.Form.TheVariants as form
use Rattle.dv_print.specs.Operands.{name_of, register_text, registers_of, form_of, has_literal, literal_text, label_text, insn_text}
use Rattle.dv_coderead.specs.declared.head.Head.TheVariants as head
use Rattle.dv_coderead.specs.declared.words.Frame.{Frame}
use Rattle.dv_coderead.specs.Pieces.{Piece, AWord, AMark, AString}
use Rattle.dv_coderead.specs.Heads.{head_of}
use Rattle.dv_coderead.specs.Operands.{operands_in}
use Rattle.law_listing.specs.Printed.{HasPieces}
use Rattle.law_listing.specs.Listable.{IsListedOp}

-- operands with commas between
abbrev pub listed_pieces : List (List Piece) → List Piece
listed_pieces xs = join_by (λ x. x) (AMark 44 ∷ []) xs

abbrev pub register_pieces : ℕ → List Piece
register_pieces n = AWord (register_text n) ∷ []

abbrev pub braces_pieces : Regs → List Piece
braces_pieces r = AMark 123 ∷ (listed_pieces (map register_pieces (registers_of r)) ++ AMark 125 ∷ [])

abbrev pub neighbours_pieces : ℕ → ℕ → List Piece
neighbours_pieces first count =
    if nat_eq count 0 then AMark 123 ∷ AMark 125 ∷ []
    else AMark 123 ∷ AWord (register_text first) ∷ AWord (codes "..") ∷ AWord (register_text (first + (count - 1))) ∷ AMark 125 ∷ []

abbrev pub registers_pieces : Form → Regs → List (List Piece)
registers_pieces form.Each r = map register_pieces (registers_of r)
registers_pieces form.Braces r = braces_pieces r ∷ []
registers_pieces form.Neighbours r = neighbours_pieces (slice_index r.first 0) r.count ∷ []

abbrev pub literal_pieces : Insn → List (List Piece)
literal_pieces i = if has_literal i.op then (AWord (literal_text i.op i.lit) ∷ []) ∷ [] else []

abbrev pub label_piece : List ℕ → List Piece
label_piece name = AWord (label_text name) ∷ []

abbrev pub label_pieces : Option (List ℕ) → List (List Piece)
label_pieces label = option_to_list (option_map label_piece label)

abbrev pub entry_pieces : PoolRef → List (List Piece)
entry_pieces pool.None = []
entry_pieces (pool.Str units) = (AString units ∷ []) ∷ []
entry_pieces (pool.OfType ty) = (AWord (descriptor ty) ∷ []) ∷ []
entry_pieces (pool.Field field) = (AWord (field_text field) ∷ []) ∷ []
entry_pieces (pool.Method method) = (AWord (method_text method) ∷ []) ∷ []

-- registers, then a literal, a label, and an entry of a pool
abbrev pub operand_pieces : Draftop → List (List Piece)
operand_pieces op =
    registers_pieces (form_of op.insn.op) op.insn.regs ++ (literal_pieces op.insn ++ (label_pieces op.label ++ entry_pieces op.pool))

abbrev pub op_pieces : Draftop → List Piece
op_pieces op = listed_pieces (operand_pieces op)

abbrev pub insn_pieces : Draftop → List Piece
insn_pieces op = AWord (name_of op.insn.op) ∷ op_pieces op

-- the text of an instruction is a line of these pieces, which are read as that instruction in every frame
pub record IsReadAsOp (op : Draftop) : Type 0 where
  pub line : HasPieces (insn_text op) (insn_pieces op)
  pub head : head_of (insn_pieces op) ≡ head.Opcode op.insn.op
  pub operands : (frame : Frame) → operands_in frame op.insn.op (op_pieces op) ≡ Ok op

abbrev pub InstructionsAreRead : Type 0
InstructionsAreRead = (op : Draftop) → IsListedOp op → IsReadAsOp op
