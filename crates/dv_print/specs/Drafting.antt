-- The draft of a body: its instructions and payloads by their addresses, with labels at the addresses that are named.
-- Its items have no lines.
use Rattle.std.specs.Prelude.{ℕ, ℤ, pos, List, [], ◌∷◌, ◌++◌, length, map, slice_get, Option, Some, None, option_map, if◌then◌else◌}
use Rattle.std.specs.Option.{option_and_then, option_map_or}
use Rattle.std.specs.List.{flat_map}
use Rattle.dv_defs.specs.declared.code.Insn.{Insn}
use Rattle.dv_defs.specs.declared.code.Payload.{Payload}
use Rattle.dv_defs.specs.declared.code.Payload.TheVariants as payload
use Rattle.dv_defs.specs.declared.code.Handler.{Handler}
use Rattle.dv_defs.specs.declared.code.Try.{Try}
use Rattle.dv_defs.specs.declared.names.Ty.{Ty}
use Rattle.dv_defs.specs.declared.code.PoolKind.{PoolKind}
use Rattle.dv_defs.specs.declared.code.PoolKind.TheVariants as kind
use Rattle.dv_defs.specs.Body.{BodyValue}
use Rattle.dv_defs.specs.Families.{pool_at}
use Rattle.dv_defs.specs.Numbers.{jump}
use Rattle.dv_draft.specs.declared.draft.Item.{Item}
use Rattle.dv_draft.specs.declared.draft.Catch.{Catch}
use Rattle.dv_draft.specs.declared.draft.Draftop.{Draftop}
use Rattle.dv_draft.specs.declared.draft.What.{What}
use Rattle.dv_draft.specs.declared.draft.What.TheVariants as what
use Rattle.dv_draft.specs.declared.draft.PoolRef.{PoolRef}
use Rattle.dv_draft.specs.declared.draft.PoolRef.TheVariants as pool
use Rattle.dv_draft.specs.Draft.{DraftValue}
use Rattle.dv_asm.specs.Refusals.{with_operands}
use Rattle.dv_print.specs.declared.pieces.Part.{Part}
use Rattle.dv_print.specs.declared.pieces.Part.TheVariants as part
use Rattle.dv_print.specs.declared.pieces.Piece.{Piece}
use Rattle.dv_print.specs.Numbers.{label_name}
use Rattle.dv_print.specs.Pieces.{pieces_of}
use Rattle.dv_print.specs.Named.{target_of, switch_address, label_addresses, is_label_address}

-- what this is, if it is there
abbrev pub found_as : {X : Type 0} → (X → PoolRef) → Option X → PoolRef
found_as entry x = option_map_or entry x pool.None

-- the entry at an index of a pool
abbrev pub entry_in : BodyValue → Option PoolKind → ℕ → PoolRef
entry_in b None index = pool.None
entry_in b (Some kind.Strings) index = found_as pool.Str (slice_get b.strings index)
entry_in b (Some kind.Types) index = found_as pool.OfType (slice_get b.types index)
entry_in b (Some kind.Fields) index = found_as pool.Field (slice_get b.fields index)
entry_in b (Some kind.Methods) index = found_as pool.Method (slice_get b.methods index)

-- an instruction at an address: its label and its entry stand for its offset and its index
abbrev pub drafted_op : BodyValue → ℕ → Insn → Draftop
drafted_op b at i = record {
  insn = with_operands i (pos 0) 0;
  label = option_map label_name (target_of at i);
  pool = entry_in b (pool_at i.op) i.index;
}

-- the labels at these distances from an address
abbrev pub labels_from : ℕ → List ℤ → List (List ℕ)
labels_from base targets = map label_name (map (jump base) targets)

-- a payload whose targets count from an address
abbrev pub payload_item : ℕ → Payload → What
payload_item base (payload.Packed first targets) = what.Packed first (labels_from base targets)
payload_item base (payload.Sparse keys targets) = what.Sparse keys (labels_from base targets)
payload_item base (payload.Data width bytes) = what.Data width bytes

abbrev pub part_item : BodyValue → List Piece → ℕ → Part → What
part_item b pieces at (part.Insn i) = what.Op (drafted_op b at i)
part_item b pieces at (part.Payload p) = payload_item (switch_address pieces at) p

abbrev pub with_no_line : What → Item
with_no_line w = record { line = 0; what = w }

-- a piece as an item
abbrev pub piece_item : BodyValue → List Piece → Piece → Item
piece_item b pieces p = with_no_line (part_item b pieces p.at p.part)

-- the label at an address, where the address is named
abbrev pub labels_at : List ℕ → ℕ → List Item
labels_at named address = if is_label_address named address then with_no_line (what.Label (label_name address)) ∷ [] else []

-- a piece with the label before it, where its address is named
abbrev pub items_at : BodyValue → List Piece → List ℕ → Piece → List Item
items_at b pieces named p = labels_at named p.at ++ piece_item b pieces p ∷ []

-- each piece with its label, and then the label of the end
abbrev pub items_in : BodyValue → List Piece → List ℕ → List Item
items_in b pieces named = flat_map (items_at b pieces named) pieces ++ labels_at named (length b.units)

-- the type that a handler catches
abbrev pub handler_type : List Ty → Handler → Option Ty
handler_type types h = option_and_then (slice_get types) h.kind

abbrev pub catch_of : List Ty → Try → Handler → Catch
catch_of types t h = record {
  line = 0;
  kind = handler_type types h;
  from = label_name t.start;
  to = label_name t.end;
  at = label_name h.at;
}

abbrev pub catches_of_try : List Ty → Try → List Catch
catches_of_try types t = map (catch_of types t) t.handlers

abbrev pub items_of : BodyValue → List Item
items_of b = let pieces = pieces_of b.units in items_in b pieces (label_addresses pieces b.tries)

abbrev pub drafted_catches : BodyValue → List Catch
drafted_catches b = flat_map (catches_of_try b.types) b.tries

unfoldable pub draft_of : BodyValue → DraftValue
draft_of b = record { registers = b.registers; items = items_of b; catches = drafted_catches b }
