-- What the items of a draft are.
use Rattle.std.specs.Prelude.{ℕ, ◌+◌, ◌*◌, ◌/◌, Bool, true, false, ◌||◌, nat_eq, List, [], length, bytes_eq, slice_index_or, Option, None}
use Rattle.dv_defs.specs.Formats.{size_at}
use Rattle.dv_draft.specs.declared.draft.Item.{Item}
use Rattle.dv_draft.specs.declared.draft.What.{What}
use Rattle.dv_draft.specs.declared.draft.What.TheVariants as what

-- an item that stands where a list has none
abbrev pub no_item : Item
no_item = record { line = 0; what = what.Label [] }

abbrev pub item_at : List Item → ℕ → Item
item_at items k = slice_index_or items k no_item

abbrev pub is_label : What → Bool
is_label (what.Label name) = true
is_label w = false

-- the label of this name
abbrev pub is_label_named : List ℕ → What → Bool
is_label_named name (what.Label own) = bytes_eq own name
is_label_named name w = false

abbrev pub is_named : List ℕ → Item → Bool
is_named name item = is_label_named name item.what

abbrev pub is_payload : What → Bool
is_payload (what.Packed first targets) = true
is_payload (what.Sparse keys targets) = true
is_payload (what.Data width bytes) = true
is_payload w = false

-- packed-switch and sparse-switch
abbrev pub is_switch_opcode : ℕ → Bool
is_switch_opcode op = nat_eq op 0x2b || nat_eq op 0x2c

-- the label that a switch names
abbrev pub label_of_switch : What → Option (List ℕ)
label_of_switch (what.Op op) = elim (is_switch_opcode op.insn.op) [ true ↦ op.label | false ↦ None ]
label_of_switch w = None

-- how many units an item has, aligning nops not counted
abbrev pub size_of : What → ℕ
size_of (what.Label name) = 0
size_of (what.Op op) = size_at op.insn.op
size_of (what.Packed first targets) = length targets * 2 + 4
size_of (what.Sparse keys targets) = length targets * 4 + 2
size_of (what.Data width bytes) = (length bytes + 1) / 2 + 4
