-- Why a draft isn't assembled: each kind of refusal by the lines at which it stands, and which one is told.
use Rattle.std.specs.Prelude.{ℕ, ◌≡◌, ◌+◌, ℤ, pos, Bool, true, false, not, ◌&&◌, nat_eq, nat_lt, nat_le, List, [], length, map, position, slice_index_or, take, Option, Some, None, is_some, Result, Ok, Err}
use Rattle.std.specs.List.{list_all, list_any}
use Rattle.std.specs.Option.{option_or}
use Rattle.dv_defs.specs.declared.code.Insn.{Insn}
use Rattle.dv_defs.specs.declared.faults.LineKind.{LineKind}
use Rattle.dv_defs.specs.declared.faults.LineKind.TheVariants as kind
use Rattle.dv_defs.specs.declared.faults.LineError.{LineError}
use Rattle.dv_defs.specs.declared.faults.LineError.TheVariants as error
use Rattle.dv_defs.specs.Spelling.{spelling, fits_signed}
use Rattle.dv_defs.specs.Formats.{offset_bits}
use Rattle.dv_draft.specs.declared.draft.Item.{Item}
use Rattle.dv_draft.specs.declared.draft.Catch.{Catch}
use Rattle.dv_draft.specs.declared.draft.What.{What}
use Rattle.dv_draft.specs.declared.draft.What.TheVariants as what
use Rattle.dv_asm.specs.declared.tries.TryRange.{TryRange}
use Rattle.dv_draft.specs.Draft.{DraftValue}
use Rattle.dv_asm.specs.First.{first_line, earlier, when, any_below}
use Rattle.dv_asm.specs.Items.{item_at, is_payload, size_of}
use Rattle.dv_asm.specs.Places.{address_of, place_of, label_address, distance, address_named_by}
use Rattle.dv_defs.specs.Body.{most_units}

-- LabelTwice: an earlier label has the name
abbrev pub is_place : ℕ → Option ℕ → Bool
is_place k None = false
is_place k (Some j) = nat_eq j k

abbrev pub is_second : List Item → ℕ → What → Bool
is_second items k (what.Label name) = not (is_place k (place_of items name))
is_second items k w = false

abbrev pub label_twice_at : List Item → ℕ → Option ℕ
label_twice_at items k = when (is_second items k (item_at items k).what) (item_at items k).line

abbrev pub label_twice : List Item → Option ℕ
label_twice items = first_line (label_twice_at items) (length items)

-- NoLabel: no item is the label that an instruction, a payload or a handler names
abbrev pub has_label : List Item → List ℕ → Bool
has_label items name = is_some (place_of items name)

abbrev pub has_label_if_any : List Item → Option (List ℕ) → Bool
has_label_if_any items None = true
has_label_if_any items (Some name) = has_label items name

abbrev pub has_labels : List Item → What → Bool
has_labels items (what.Label name) = true
has_labels items (what.Op op) = has_label_if_any items op.label
has_labels items (what.Packed first targets) = list_all (has_label items) targets
has_labels items (what.Sparse keys targets) = list_all (has_label items) targets
has_labels items (what.Data width bytes) = true

abbrev pub no_label_at : List Item → ℕ → Option ℕ
no_label_at items k = when (not (has_labels items (item_at items k).what)) (item_at items k).line

abbrev pub no_catch : Catch
no_catch = record { line = 0; kind = None; from = []; to = []; at = [] }

abbrev pub catch_at : List Catch → ℕ → Catch
catch_at catches k = slice_index_or catches k no_catch

abbrev pub catch_has_labels : List Item → Catch → Bool
catch_has_labels items c = has_label items c.from && (has_label items c.to && has_label items c.at)

abbrev pub no_label_of_catch_at : List Item → List Catch → ℕ → Option ℕ
no_label_of_catch_at items catches k = when (not (catch_has_labels items (catch_at catches k))) (catch_at catches k).line

abbrev pub no_label : List Item → List Catch → Option ℕ
no_label items catches =
    earlier (first_line (no_label_at items) (length items)) (first_line (no_label_of_catch_at items catches) (length catches))

-- Repeated: an earlier switch names the same payload
-- what each item names: an address, where it is a switch
abbrev pub addresses_named : List Item → List (Option ℕ)
addresses_named items = map (address_named_by items) items

abbrev pub is_address : ℕ → Option ℕ → Bool
is_address address None = false
is_address address (Some a) = nat_eq a address

-- the first switch that names an address
abbrev pub switch_of : List Item → ℕ → Option ℕ
switch_of items address = position (is_address address) (addresses_named items)

-- whether a payload stands at an address
abbrev pub is_payload_at : List Item → ℕ → ℕ → Bool
is_payload_at items address k = is_payload (item_at items k).what && nat_eq (address_of items k) address

abbrev pub stands_payload : List Item → ℕ → Bool
stands_payload items address = any_below (is_payload_at items address) (length items)

abbrev pub is_repeated : List Item → ℕ → Option ℕ → Bool
is_repeated items k None = false
is_repeated items k (Some address) = stands_payload items address && not (is_place k (switch_of items address))

abbrev pub repeated_at : List Item → ℕ → Option ℕ
repeated_at items k = when (is_repeated items k (address_named_by items (item_at items k))) (item_at items k).line

abbrev pub repeated : List Item → Option ℕ
repeated items = first_line (repeated_at items) (length items)

-- the instruction with this offset and this index
abbrev pub with_operands : Insn → ℤ → ℕ → Insn
with_operands i off index = record { op = i.op; regs = i.regs; lit = i.lit; off = off; index = index }

-- RegisterRange: a register doesn't fit its field; with offset and index 0 there is no other cause
abbrev pub is_over_registers : What → Bool
is_over_registers (what.Op op) = not (is_some (spelling (with_operands op.insn (pos 0) 0)))
is_over_registers w = false

abbrev pub register_range_at : List Item → ℕ → Option ℕ
register_range_at items k = when (is_over_registers (item_at items k).what) (item_at items k).line

abbrev pub register_range : List Item → Option ℕ
register_range items = first_line (register_range_at items) (length items)

-- OffsetRange: the label's distance doesn't fit the offset's field
abbrev pub offset_fits : List Item → ℕ → ℕ → Option (List ℕ) → Bool
offset_fits items k op None = true
offset_fits items k op (Some name) = fits_signed (offset_bits op) (distance items (address_of items k) name)

abbrev pub is_over_offset : List Item → ℕ → What → Bool
is_over_offset items k (what.Op op) = not (offset_fits items k op.insn.op op.label)
is_over_offset items k w = false

abbrev pub offset_range_at : List Item → ℕ → Option ℕ
offset_range_at items k = when (is_over_offset items k (item_at items k).what) (item_at items k).line

abbrev pub offset_range : List Item → Option ℕ
offset_range items = first_line (offset_range_at items) (length items)

-- TooLong: the item's end passes 16,384 units
abbrev pub passes : List Item → ℕ → Bool
passes items k = nat_le (address_of items k) most_units && nat_lt most_units (address_of items k + size_of (item_at items k).what)

abbrev pub too_long_at : List Item → ℕ → Option ℕ
too_long_at items k = when (passes items k) (item_at items k).line

abbrev pub too_long : List Item → Option ℕ
too_long items = first_line (too_long_at items) (length items)

-- the addresses that a handler covers
abbrev pub range_of : List Item → Catch → TryRange
range_of items c = record { start = label_address items c.from; end = label_address items c.to }

-- TryRange: the range's start isn't before its end
abbrev pub is_empty : TryRange → Bool
is_empty r = nat_le r.end r.start

abbrev pub try_range_at : List Item → List Catch → ℕ → Option ℕ
try_range_at items catches k = when (is_empty (range_of items (catch_at catches k))) (catch_at catches k).line

abbrev pub try_range : List Item → List Catch → Option ℕ
try_range items catches = first_line (try_range_at items catches) (length catches)

-- TryOverlap: an earlier handler has another range with an address in common
abbrev pub is_same : TryRange → TryRange → Bool
is_same r s = nat_eq r.start s.start && nat_eq r.end s.end

abbrev pub overlaps : TryRange → TryRange → Bool
overlaps r s = not (is_same r s) && (nat_lt r.start s.end && nat_lt s.start r.end)

-- the ranges of the handlers
abbrev pub ranges_of : List Item → List Catch → List TryRange
ranges_of items catches = map (range_of items) catches

abbrev pub overlaps_earlier : List Item → List Catch → ℕ → Bool
overlaps_earlier items catches k = list_any (overlaps (range_of items (catch_at catches k))) (take k (ranges_of items catches))

abbrev pub try_overlap_at : List Item → List Catch → ℕ → Option ℕ
try_overlap_at items catches k = when (overlaps_earlier items catches k) (catch_at catches k).line

abbrev pub try_overlap : List Item → List Catch → Option ℕ
try_overlap items catches = first_line (try_overlap_at items catches) (length catches)

-- a refusal
pub record Refusal : Type 0 where
  pub line : ℕ
  pub kind : LineKind

abbrev pub refused : LineKind → Option ℕ → Option Refusal
refused k None = None
refused k (Some line) = Some (record { line = line; kind = k })

-- the first kind that stands, at its first line: of labels, of items, of ranges
abbrev pub label_refusal : List Item → List Catch → Option Refusal
label_refusal items catches = option_or (refused kind.LabelTwice (label_twice items)) (refused kind.NoLabel (no_label items catches))

abbrev pub item_refusal : List Item → Option Refusal
item_refusal items =
    option_or (refused kind.Repeated (repeated items))
    (option_or (refused kind.RegisterRange (register_range items))
    (option_or (refused kind.OffsetRange (offset_range items)) (refused kind.TooLong (too_long items))))

abbrev pub range_refusal : List Item → List Catch → Option Refusal
range_refusal items catches =
    option_or (refused kind.TryRange (try_range items catches)) (refused kind.TryOverlap (try_overlap items catches))

abbrev pub refusal : DraftValue → Option Refusal
refusal d = option_or (label_refusal d.items d.catches) (option_or (item_refusal d.items) (range_refusal d.items d.catches))

-- the error tells this refusal, unless memory was wanting
abbrev pub Tells : LineError → Option Refusal → Type 0
Tells error.Memory r = Unit {0}
Tells (error.At line k) r = r ≡ Some (record { line = line; kind = k })

abbrev pub Checks : {Y : Type 0} → Result Y LineError → Option Refusal → Type 0
Checks (Ok y) r = r ≡ None
Checks (Err e) r = Tells e r
