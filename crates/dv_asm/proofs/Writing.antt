-- Where no refusal of items stands, each item has a spelling.
use Rattle.std.proofs.Common.{◌≡◌, ◌≤◌, ◌<◌, Bool, true, false, not, ℕ, suc, List, length, Option, Some, None, is_some, refl, ◌∙◌, arith}
use Rattle.std.specs.Option.{option_or}
use Rattle.dv_defs.specs.declared.faults.LineKind.{LineKind}
use Rattle.dv_defs.specs.declared.faults.LineKind.TheVariants as kind
use Rattle.dv_defs.specs.Formats.{format_at}
use Rattle.dv_draft.specs.declared.draft.Item.{Item}
use Rattle.dv_draft.specs.declared.draft.What.{What}
use Rattle.dv_draft.specs.declared.draft.What.TheVariants as what
use Rattle.dv_draft.specs.Draft.{AreFormed, IsFormed}
use Rattle.dv_defs.specs.Formats.{has_offset}
use Rattle.dv_asm.specs.Items.{item_at, no_item, size_of}
use Rattle.dv_asm.specs.Refusals.{refused, item_refusal, is_over_registers, register_range_at, register_range, offset_fits, is_over_offset, offset_range_at, offset_range, too_long, repeated}
use Rattle.dv_draft.specs.Pools.{pools_of}
use Rattle.dv_asm.specs.Layout.{IsWritable, AreWritable, offset_of}
use Rattle.dv_draft.specs.Pools.{index_of}
use Rattle.dv_asm.proofs.FirstLemmas.{first_line_none, not_when}
use Rattle.dv_asm.proofs.PlaceLemmas.{ends_within}
use Rattle.dv_asm.proofs.PoolLemmas.{index_small, index_none}
use Rattle.dv_asm.proofs.Respelled.{OffsetFits, respelled}

not_false : (b : Bool) → not b ≡ false → b ≡ true
not_false true e = refl
not_false false e = absurd (cc)

offset_by : (items : List Item) (k op : ℕ) (label : Option (List ℕ)) → is_some label ≡ has_offset (format_at op) → offset_fits items k op label ≡ true → OffsetFits (format_at op) (offset_of items k label)
offset_by items k op None same fitting = record { fitting = λ h. absurd (cc); none = λ h. refl }
offset_by items k op (Some name) same fitting = record { fitting = λ h. fitting; none = λ h. absurd (cc) }

writable_at : (items : List Item) (k : ℕ) (w : What) → AreFormed items → too_long items ≡ None → IsFormed w → is_over_registers w ≡ false → is_over_offset items k w ≡ false → size_of w ≤ 16384 → IsWritable items (pools_of items) k w
writable_at items k (what.Label name) all short formed registers offset small = tt
writable_at items k (what.Op op) all short formed registers offset small =
    respelled op.insn (offset_of items k op.label) (index_of (pools_of items) op.pool)
    (offset_by items k op.insn.op op.label formed.label (not_false _ offset))
    (record { small = index_small items op.pool all short; none = λ h. index_none (pools_of items) op.pool (formed.entry ∙ h) })
    (not_false _ registers)
writable_at items k (what.Packed first names) all short formed registers offset small = omega arith
writable_at items k (what.Sparse keys names) all short formed registers offset small = (formed, omega arith)
writable_at items k (what.Data width bytes) all short formed registers offset small = (formed.0, formed.1, omega arith)

size_within : (items : List Item) (k : ℕ) → too_long items ≡ None → k < length items → size_of (item_at items k).what ≤ 16384
size_within items k short within =
    let whole = ends_within items short (suc k) (omega arith) in
    omega arith

or_none : {Y : Type 0} (a b : Option Y) → option_or a b ≡ None → (a ≡ None) × (b ≡ None)
or_none None b none = (refl, none)
or_none (Some y) b none = absurd (cc)

refused_none : (k : LineKind) (line : Option ℕ) → refused k line ≡ None → line ≡ None
refused_none k None none = refl
refused_none k (Some line) none = absurd (cc)

pub are_writable : (items : List Item) → AreFormed items → item_refusal items ≡ None → AreWritable items (pools_of items)
are_writable items formed none k within =
    let later = (or_none (refused kind.Repeated (repeated items)) _ none).1 in
    let registers = or_none (refused kind.RegisterRange (register_range items)) _ later in
    let offsets = or_none (refused kind.OffsetRange (offset_range items)) (refused kind.TooLong (too_long items)) registers.1 in
    let short = refused_none kind.TooLong (too_long items) offsets.1 in
    let w = (item_at items k).what in
    let line = (item_at items k).line in
    writable_at items k w formed short (formed k no_item within)
    (not_when (is_over_registers w) line (first_line_none (register_range_at items) (length items) k (refused_none kind.RegisterRange (register_range items) registers.0) within))
    (not_when (is_over_offset items k w) line (first_line_none (offset_range_at items) (length items) k (refused_none kind.OffsetRange (offset_range items) offsets.0) within))
    (size_within items k short within)
