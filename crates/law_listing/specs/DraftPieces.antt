-- The pieces on the lines of a draft's text.
use Rattle.std.specs.Prelude.{ℕ, ℤ, Bool, true, false, List, [], ◌∷◌, ◌++◌, map, codes, decimal, Option, Some, None}
use Rattle.std.specs.Fmt.{signed_decimal}
use Rattle.std.specs.List.{flat_map, zip}
use Rattle.dv_defs.specs.declared.names.Ty.{Ty}
use Rattle.dv_defs.specs.Numbers.{elements}
use Rattle.dv_names.specs.Descriptors.{descriptor}
use Rattle.dv_draft.specs.declared.draft.Item.{Item}
use Rattle.dv_draft.specs.declared.draft.Catch.{Catch}
use Rattle.dv_draft.specs.declared.draft.What.{What}
use Rattle.dv_draft.specs.declared.draft.What.TheVariants as what
use Rattle.dv_draft.specs.Draft.{DraftValue}
use Rattle.dv_print.specs.Operands.{label_text}
use Rattle.dv_print.specs.Draft.{suffix_of, element_count}
use Rattle.dv_coderead.specs.declared.head.Block.{Block}
use Rattle.dv_coderead.specs.declared.head.Block.TheVariants.{Units}
use Rattle.dv_coderead.specs.declared.head.Directive.TheVariants as directive
use Rattle.dv_coderead.specs.declared.head.Head.{Head}
use Rattle.dv_coderead.specs.declared.head.Head.TheVariants as head
use Rattle.dv_coderead.specs.Pieces.{Piece, AWord, AMark}
use Rattle.law_listing.specs.OperandPieces.{insn_pieces}

-- a word alone on its line
abbrev pub one_word : List ℕ → List Piece
one_word w = AWord w ∷ []

abbrev pub two_words : List ℕ → List ℕ → List Piece
two_words v w = AWord v ∷ AWord w ∷ []

abbrev pub target_line : List ℕ → List Piece
target_line name = one_word (label_text name)

abbrev pub case_pieces : ℤ × List ℕ → List Piece
case_pieces x = AWord (signed_decimal x.0) ∷ AWord (codes "->") ∷ AWord (label_text x.1) ∷ []

abbrev pub element_pieces : ℕ → ℤ → List Piece
element_pieces width z = one_word (signed_decimal z ++ suffix_of width)

abbrev pub packed_lines : ℤ → List (List ℕ) → List (List Piece)
packed_lines first targets =
    two_words (codes ".packed-switch") (signed_decimal first) ∷ (map target_line targets ++ two_words (codes ".end") (codes "packed-switch") ∷ [])

abbrev pub sparse_lines : List ℤ → List (List ℕ) → List (List Piece)
sparse_lines keys targets =
    one_word (codes ".sparse-switch") ∷ (map case_pieces (zip keys targets) ++ two_words (codes ".end") (codes "sparse-switch") ∷ [])

abbrev pub data_lines : ℕ → List ℕ → List (List Piece)
data_lines width bytes =
    two_words (codes ".array-data") (decimal width) ∷
    (map (element_pieces width) (elements (element_count width bytes) width bytes) ++ two_words (codes ".end") (codes "array-data") ∷ [])

abbrev pub what_lines : What → List (List Piece)
what_lines (what.Label name) = target_line name ∷ []
what_lines (what.Op op) = insn_pieces op ∷ []
what_lines (what.Packed first targets) = packed_lines first targets
what_lines (what.Sparse keys targets) = sparse_lines keys targets
what_lines (what.Data width bytes) = data_lines width bytes

abbrev pub item_lines : Item → List (List Piece)
item_lines item = what_lines item.what

abbrev pub kind_pieces : Option Ty → List Piece
kind_pieces None = AWord (codes ".catchall") ∷ []
kind_pieces (Some t) = AWord (codes ".catch") ∷ AWord (descriptor t) ∷ []

-- `{`, a label, `..`, a label, `}`, and the label of the handler
abbrev pub range_pieces : Catch → List Piece
range_pieces c =
    AMark 123 ∷ AWord (label_text c.from) ∷ AWord (codes "..") ∷ AWord (label_text c.to) ∷ AMark 125 ∷ AWord (label_text c.at) ∷ []

abbrev pub catch_pieces : Catch → List Piece
catch_pieces c = kind_pieces c.kind ++ range_pieces c

abbrev pub registers_line : ℕ → List Piece
registers_line n = two_words (codes ".registers") (decimal n)

abbrev pub draft_pieces : DraftValue → List (List Piece)
draft_pieces d = registers_line d.registers ∷ (flat_map item_lines d.items ++ map catch_pieces d.catches)

abbrev pub is_payload_block : Block → Bool
is_payload_block Units = false
is_payload_block b = true

-- what lines of a body that isn't raw are
abbrev pub is_draft_head : Head → Bool
is_draft_head head.Label = true
is_draft_head (head.Opcode op) = true
is_draft_head head.Other = true
is_draft_head (head.Directive directive.Registers) = true
is_draft_head (head.Directive directive.Catch) = true
is_draft_head (head.Directive directive.Catchall) = true
is_draft_head (head.Directive (directive.Begin b)) = is_payload_block b
is_draft_head (head.Directive (directive.End b)) = is_payload_block b
is_draft_head h = false
