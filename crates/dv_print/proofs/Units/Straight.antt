-- Instructions without an offset are spelled as they were.
use Rattle.std.proofs.Common.{◌≡◌, ℕ, ◌<◌, ℤ, pos, Bool, true, false, List, [], Option, Some, None, if◌then◌else◌, refl, ap, sym, ◌∙◌}
use Rattle.std.specs.Prelude.{option_map}
use Rattle.dv_defs.specs.declared.code.Insn.{Insn}
use Rattle.dv_defs.specs.declared.code.Regs.{Regs}
use Rattle.dv_defs.specs.Body.{BodyValue}
use Rattle.dv_defs.specs.Families.{pool_at}
use Rattle.dv_defs.specs.Formats.{format_at, has_offset}
use Rattle.dv_defs.specs.Numbers.{jump}
use Rattle.dv_defs.specs.Spelling.{plain, few, spelling}
use Rattle.dv_defs.specs.Tiling.{Tile}
use Rattle.dv_defs.specs.Layout.{item_spelling}
use Rattle.dv_draft.specs.declared.draft.Item.{Item}
use Rattle.dv_draft.specs.declared.pools.Pools.{Pools}
use Rattle.dv_draft.specs.Draft.{DraftValue, AreFormed, IsFormed, blank}
use Rattle.dv_draft.specs.Pools.{index_of}
use Rattle.dv_asm.specs.Layout.{insn_of, offset_of, spelling_of}
use Rattle.dv_print.specs.declared.pieces.Piece.{Piece}
use Rattle.dv_print.specs.Numbers.{label_name}
use Rattle.dv_print.specs.Pieces.{part_of}
use Rattle.dv_print.specs.Drafting.{entry_in, drafted_op, part_item}
use Rattle.dv_print.proofs.Places.ItemTiles.{nop}
use Rattle.dv_print.proofs.Pools.KeptEntries.{nop_pool}
use Rattle.dv_print.proofs.Units.KeptUnits.{IsSpelledAs}

pub no_label_by : (c : Bool) (at : ℕ) (off : ℤ) → c ≡ false → option_map label_name (if c then Some (jump at off) else None) ≡ None
no_label_by true at off e = absurd (cc)
no_label_by false at off e = refl

pub offset_none : (items : List Item) (k : ℕ) (label : Option (List ℕ)) → label ≡ None → offset_of items k label ≡ pos 0
offset_none items k None e = refl
offset_none items k (Some name) e = absurd (cc)

pub insn_by : (op : ℕ) (regs : Regs) (lit : ℤ) (o o' : ℤ) (n n' : ℕ) → o ≡ o' → n ≡ n' → (let i : Insn = record { op = op; regs = regs; lit = lit; off = o; index = n } in i) ≡ record { op = op; regs = regs; lit = lit; off = o'; index = n' }
insn_by op regs lit o o' n n' p q = cc

-- an instruction without an offset is the same again
pub same_insn : (items : List Item) (pools : Pools) (b : BodyValue) (k at : ℕ) (i : Insn) → has_offset (format_at i.op) ≡ false → i.off ≡ pos 0 → index_of pools (entry_in b (pool_at i.op) i.index) ≡ i.index → insn_of items pools k (drafted_op b at i) ≡ i
same_insn items pools b k at i none still same =
    insn_by i.op i.regs i.lit (offset_of items k (drafted_op b at i).label) i.off (index_of pools (entry_in b (pool_at i.op) i.index)) i.index
    (offset_none items k (drafted_op b at i).label (no_label_by (has_offset (format_at i.op)) at i.off none) ∙ sym still) same

pub nop_offset : has_offset (format_at 0) ≡ false
unfolding format_at
nop_offset = refl

pub nop_spelled : (after : List Item) (pools : Pools) (b : BodyValue) (all : List Piece) (t : Tile) → t.item ≡ nop → IsSpelledAs after pools b all t
nop_spelled after pools b all t e k at =
    ap (λ x. spelling_of after pools k (part_item b all t.at (part_of x))) e ∙
    (ap spelling (same_insn after pools b k t.at (plain 0 (few [])) nop_offset refl (ap (λ q. index_of pools (entry_in b q 0)) nop_pool)) ∙ ap item_spelling (sym e))
