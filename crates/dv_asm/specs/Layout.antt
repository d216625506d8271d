-- The body that a draft is assembled to.
use Rattle.std.specs.Prelude.{ℕ, zero, suc, ◌≡◌, ◌<◌, ◌%◌, ◌^◌, ◌++◌, ℤ, pos, Bool, false, nat_le, nat_lt, List, [], ◌∷◌, length, map, filter, fold, insert, position, slice_get, unwrap_or, Option, Some, None, IsSome, IsTrue, if◌then◌else◌}
use Rattle.std.specs.Option.{option_map_or, option_and_then}
use Rattle.dv_defs.specs.declared.code.Insn.{Insn}
use Rattle.dv_defs.specs.declared.code.Payload.{Payload}
use Rattle.dv_defs.specs.declared.code.Payload.TheVariants as payload
use Rattle.dv_defs.specs.declared.code.Handler.{Handler}
use Rattle.dv_defs.specs.declared.code.Try.{Try}
use Rattle.dv_defs.specs.declared.names.Ty.{Ty}
use Rattle.dv_defs.specs.Body.{BodyValue}
use Rattle.dv_defs.specs.Types.{ty_eq}
use Rattle.dv_defs.specs.Spelling.{spelling}
use Rattle.dv_defs.specs.Payloads.{payload_spelling}
use Rattle.dv_defs.specs.Tiling.{is_width}
use Rattle.dv_draft.specs.declared.draft.Item.{Item}
use Rattle.dv_draft.specs.declared.draft.Catch.{Catch}
use Rattle.dv_draft.specs.declared.draft.Draftop.{Draftop}
use Rattle.dv_draft.specs.declared.draft.What.{What}
use Rattle.dv_draft.specs.declared.draft.What.TheVariants as what
use Rattle.dv_asm.specs.declared.tries.TryRange.{TryRange}
use Rattle.dv_draft.specs.declared.pools.Pools.{Pools}
use Rattle.dv_draft.specs.Draft.{DraftValue}
use Rattle.dv_asm.specs.Items.{item_at}
use Rattle.dv_asm.specs.Places.{address_of, label_address, distance}
use Rattle.dv_asm.specs.Refusals.{with_operands, switch_of, range_of, ranges_of, is_same}
use Rattle.dv_draft.specs.Pools.{with_entries, index_of, pools_of}

abbrev pub begins_from : TryRange → TryRange → Bool
begins_from r s = nat_le r.start s.start

-- how many of the ranges begin before this one, where they stand by their starts
abbrev pub place_among : List TryRange → TryRange → ℕ
place_among rs r = unwrap_or (position (begins_from r) rs) (length rs)

abbrev pub is_range : TryRange → Option TryRange → Bool
is_range r None = false
is_range r (Some s) = is_same s r

-- the ranges with this one in its place by its start, unless it is there
abbrev pub with_range : List TryRange → TryRange → List TryRange
with_range rs r = if is_range r (slice_get rs (place_among rs r)) then rs else insert rs (place_among rs r) r

-- the ranges of the handlers, each once, by their starts
abbrev pub sorted_ranges : List Item → List Catch → List TryRange
sorted_ranges items catches = fold with_range [] (ranges_of items catches)

-- the type that a handler catches, where its range is this one
abbrev pub kind_in : List Item → TryRange → Catch → Option Ty
kind_in items r c = if is_same (range_of items c) r then c.kind else None

-- the types, and then those that the handlers of each range catch
abbrev pub with_kinds : List Item → List Catch → List Ty → List TryRange → List Ty
with_kinds items catches ts [] = ts
with_kinds items catches ts (r ∷ rs) = with_kinds items catches (with_entries ty_eq (kind_in items r) ts catches) rs

-- the pool of types: what the instructions name, and then the types of the handlers, by the ranges' starts
abbrev pub types_of : List Item → List Catch → List Ty
types_of items catches = with_kinds items catches (pools_of items).types (sorted_ranges items catches)

abbrev pub handler_of : List Item → List Ty → Catch → Handler
handler_of items types c = record { kind = option_and_then (λ t. position (ty_eq t) types) c.kind; at = label_address items c.at }

-- the handlers of a range, in the order of the text
abbrev pub catches_of : List Item → List Catch → TryRange → List Catch
catches_of items catches r = filter (λ (c : Catch). is_same (range_of items c) r) catches

abbrev pub entry_of : List Item → List Catch → List Ty → TryRange → Try
entry_of items catches types r =
    record { start = r.start; end = r.end; handlers = map (handler_of items types) (catches_of items catches r) }

abbrev pub tries_of : List Item → List Catch → List Ty → List Try
tries_of items catches types = map (entry_of items catches types) (sorted_ranges items catches)

abbrev pub offset_of : List Item → ℕ → Option (List ℕ) → ℤ
offset_of items k None = pos 0
offset_of items k (Some name) = distance items (address_of items k) name

-- item k's instruction, with its offset and its index
abbrev pub insn_of : List Item → Pools → ℕ → Draftop → Insn
insn_of items pools k op = with_operands op.insn (offset_of items k op.label) (index_of pools op.pool)

-- the address that a payload's targets count from: that of the switch that names the payload, else 0
abbrev pub base_of : List Item → ℕ → ℕ
base_of items address = option_map_or (address_of items) (switch_of items address) 0

abbrev pub targets_of : List Item → ℕ → List (List ℕ) → List ℤ
targets_of items address names = map (distance items (base_of items address)) names

abbrev pub packed_of : List Item → ℕ → ℤ → List (List ℕ) → Payload
packed_of items address first names = payload.Packed first (targets_of items address names)

abbrev pub sparse_of : List Item → ℕ → List ℤ → List (List ℕ) → Payload
sparse_of items address keys names = payload.Sparse keys (targets_of items address names)

-- the units of item k
abbrev pub spelling_of : List Item → Pools → ℕ → What → Option (List ℕ)
spelling_of items pools k (what.Label name) = Some []
spelling_of items pools k (what.Op op) = spelling (insn_of items pools k op)
spelling_of items pools k (what.Packed first names) = payload_spelling (packed_of items (address_of items k) first names)
spelling_of items pools k (what.Sparse keys names) = payload_spelling (sparse_of items (address_of items k) keys names)
spelling_of items pools k (what.Data width bytes) = payload_spelling (payload.Data width bytes)

-- each item has a spelling
abbrev pub AreSpelled : List Item → Pools → Type 0
AreSpelled items pools = (k : ℕ) → k < length items → IsSome (spelling_of items pools k (item_at items k).what)

-- an item whose numbers are those of their types has a spelling where this holds
abbrev pub IsWritable : List Item → Pools → ℕ → What → Type 0
IsWritable items pools k (what.Label name) = Unit {0}
IsWritable items pools k (what.Op op) = IsSome (spelling (insn_of items pools k op))
IsWritable items pools k (what.Packed first names) = length names < 2 ^ 16
IsWritable items pools k (what.Sparse keys names) = (length names ≡ length keys) × (length names < 2 ^ 16)
IsWritable items pools k (what.Data width bytes) = IsTrue (is_width width) × (length bytes % width ≡ 0) × (length bytes < 2 ^ 32)

abbrev pub AreWritable : List Item → Pools → Type 0
AreWritable items pools = (k : ℕ) → k < length items → IsWritable items pools k (item_at items k).what

-- a nop at their end, where they end before an address
abbrev pub padded : ℕ → List ℕ → List ℕ
padded address us = if nat_lt (length us) address then us ++ 0 ∷ [] else us

-- the units of the first k items one after another, each at its address
abbrev pub units_of : List Item → Pools → ℕ → List ℕ
units_of items pools zero = []
units_of items pools (suc k) =
    padded (address_of items k) (units_of items pools k) ++
    unwrap_or (spelling_of items pools k (item_at items k).what) []

-- a body of these units, entries and pools
abbrev pub body_with : ℕ → List ℕ → List Try → Pools → BodyValue
body_with registers units tries pools = record {
  registers = registers;
  units = units;
  tries = tries;
  strings = pools.strings;
  types = pools.types;
  fields = pools.fields;
  methods = pools.methods;
  raw = false;
}

unfoldable pub body_of : ℕ → List Item → List Catch → BodyValue
body_of registers items catches =
    let pools = pools_of items in
    let types = types_of items catches in
    record {
      registers = registers;
      units = units_of items pools (length items);
      tries = tries_of items catches types;
      strings = pools.strings;
      types = types;
      fields = pools.fields;
      methods = pools.methods;
      raw = false;
    }

-- the body with the units of the items, the try entries and the pools
abbrev pub layout : DraftValue → BodyValue
layout d = body_of d.registers d.items d.catches
