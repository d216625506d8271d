-- The addresses at which labels stand.
use Rattle.std.specs.Prelude.{ℕ, ◌≡◌, ◌&&◌, Bool, false, nat_eq, List, [], ◌∷◌, ◌++◌, map, find, Option, Some, None, option_map, if◌then◌else◌}
use Rattle.std.specs.Option.{option_map_or, option_to_list}
use Rattle.std.specs.List.{flat_map, list_any}
use Rattle.std.specs.Ordering.{nat_cmp}
use Rattle.std.specs.BTreeMap.{BTreeMap, get}
use Rattle.dv_defs.specs.declared.code.Insn.{Insn}
use Rattle.dv_defs.specs.declared.code.Payload.{Payload}
use Rattle.dv_defs.specs.declared.code.Payload.TheVariants as payload
use Rattle.dv_defs.specs.declared.code.Handler.{Handler}
use Rattle.dv_defs.specs.declared.code.Try.{Try}
use Rattle.dv_defs.specs.Formats.{format_at, has_offset}
use Rattle.dv_defs.specs.Numbers.{jump}
use Rattle.dv_asm.specs.Items.{is_switch_opcode}
use Rattle.dv_print.specs.declared.pieces.Part.{Part}
use Rattle.dv_print.specs.declared.pieces.Part.TheVariants as part
use Rattle.dv_print.specs.declared.pieces.Piece.{Piece}

-- the address to which an instruction's offset leads, where its format has one
abbrev pub target_of : ℕ → Insn → Option ℕ
target_of at i = if has_offset (format_at i.op) then Some (jump at i.off) else None

-- whether a switch leads to an address
abbrev pub part_switches_to : ℕ → ℕ → Part → Bool
part_switches_to address at (part.Insn i) = is_switch_opcode i.op && nat_eq (jump at i.off) address
part_switches_to address at (part.Payload p) = false

abbrev pub switches_to : ℕ → Piece → Bool
switches_to address p = part_switches_to address p.at p.part

abbrev pub piece_address : Piece → ℕ
piece_address p = p.at

-- the address from which a payload's targets count: that of the first switch that leads to it, else 0
abbrev pub switch_address : List Piece → ℕ → ℕ
switch_address pieces address = option_map_or piece_address (find (switches_to address) pieces) 0

-- of each address to which switches lead the address of the first one
abbrev pub HasSwitches : List Piece → BTreeMap ℕ ℕ → Type 0
HasSwitches pieces switches = (address : ℕ) → get nat_cmp switches address ≡ option_map piece_address (find (switches_to address) pieces)

-- the addresses that a payload names, if its targets count from this one
abbrev pub named_by_payload : ℕ → Payload → List ℕ
named_by_payload base (payload.Packed first targets) = map (jump base) targets
named_by_payload base (payload.Sparse keys targets) = map (jump base) targets
named_by_payload base (payload.Data width bytes) = []

abbrev pub named_by_part : List Piece → ℕ → Part → List ℕ
named_by_part pieces at (part.Insn i) = option_to_list (target_of at i)
named_by_part pieces at (part.Payload p) = named_by_payload (switch_address pieces at) p

abbrev pub named_by_piece : List Piece → Piece → List ℕ
named_by_piece pieces p = named_by_part pieces p.at p.part

abbrev pub handler_address : Handler → ℕ
handler_address h = h.at

abbrev pub named_by_try : Try → List ℕ
named_by_try t = t.start ∷ t.end ∷ map handler_address t.handlers

-- the addresses that branches, switches, references to payloads and tries name
abbrev pub label_addresses : List Piece → List Try → List ℕ
label_addresses pieces tries = flat_map (named_by_piece pieces) pieces ++ flat_map named_by_try tries

abbrev pub is_label_address : List ℕ → ℕ → Bool
is_label_address named address = list_any (λ a. nat_eq a address) named
