-- What a draft is seen as, and what each draft keeps.
use Rattle.std.specs.Prelude.{ℕ, ◌≡◌, ◌≤◌, ◌%◌, pos, Bool, true, false, ◌&&◌, ◌||◌, nat_eq, nat_lt, List, [], ◌∷◌, length, drop, slice_index, All, Option, Some, None, is_some, IsSome, IsTrue}
use Rattle.dv_defs.specs.declared.code.Insn.{Insn}
use Rattle.dv_defs.specs.declared.code.Regs.{Regs}
use Rattle.dv_defs.specs.declared.code.PoolKind.{PoolKind}
use Rattle.dv_defs.specs.declared.code.PoolKind.TheVariants as kind
use Rattle.dv_defs.specs.Formats.{has_offset, has_index, format_at}
use Rattle.dv_defs.specs.Families.{pool_at}
use Rattle.dv_defs.specs.Spelling.{spelling, all_zero}
use Rattle.dv_defs.specs.Tiling.{is_width}
use Rattle.dv_draft.specs.declared.draft.Item.{Item}
use Rattle.dv_draft.specs.declared.draft.Catch.{Catch}
use Rattle.dv_draft.specs.declared.draft.Draftop.{Draftop}
use Rattle.dv_draft.specs.declared.draft.What.{What}
use Rattle.dv_draft.specs.declared.draft.What.TheVariants as what
use Rattle.dv_draft.specs.declared.draft.PoolRef.{PoolRef}
use Rattle.dv_draft.specs.declared.draft.PoolRef.TheVariants as pool

pub record DraftValue : Type 0 where
  pub registers : ℕ
  pub items : List Item
  pub catches : List Catch

-- the pool in which an entry is a place
abbrev pub kind_of_entry : PoolRef → Option PoolKind
kind_of_entry pool.None = None
kind_of_entry (pool.Str chars) = Some kind.Strings
kind_of_entry (pool.OfType ty) = Some kind.Types
kind_of_entry (pool.Field field) = Some kind.Fields
kind_of_entry (pool.Method method) = Some kind.Methods

abbrev pub is_entry : PoolRef → Bool
is_entry pool.None = false
is_entry entry = true

-- the instruction with its registers, offset and index set to 0: it has a spelling exactly where its opcode is one of
-- the table, it has as many registers as its format takes, its range is that of its format, and its literal fits
abbrev pub blank : Insn → Insn
blank i = record {
  op = i.op;
  regs = record { count = i.regs.count; first = 0 ∷ 0 ∷ 0 ∷ 0 ∷ 0 ∷ []; range = i.regs.range };
  lit = i.lit;
  off = pos 0;
  index = 0;
}

-- the places of registers that aren't there are 0
abbrev pub has_no_further : Regs → Bool
has_no_further r =
    elim r.range [
      | true ↦ all_zero (drop 1 r.first) && (nat_lt 0 r.count || nat_eq (slice_index r.first 0) 0)
      | false ↦ all_zero (drop r.count r.first)
    ]

-- an instruction in the form of its format: it has a label exactly where the format has an offset, an entry of its
-- opcode's kind exactly where it has an index, and 0 in each part that the format lacks
pub record IsOp (op : Draftop) : Type 0 where
  pub form : IsSome (spelling (blank op.insn))
  pub registers : IsTrue (has_no_further op.insn.regs)
  pub label : is_some op.label ≡ has_offset (format_at op.insn.op)
  pub offset : has_offset (format_at op.insn.op) ≡ false → op.insn.off ≡ pos 0
  pub entry : is_entry op.pool ≡ has_index (format_at op.insn.op)
  pub kind : is_entry op.pool ≡ true → kind_of_entry op.pool ≡ pool_at op.insn.op
  pub index : has_index (format_at op.insn.op) ≡ false → op.insn.index ≡ 0

-- an item in its form: as many targets as keys, and whole elements of a width that there is
abbrev pub IsFormed : What → Type 0
IsFormed (what.Label name) = Unit {0}
IsFormed (what.Op op) = IsOp op
IsFormed (what.Packed first targets) = Unit {0}
IsFormed (what.Sparse keys targets) = length targets ≡ length keys
IsFormed (what.Data width bytes) = IsTrue (is_width width) × (length bytes % width ≡ 0)

abbrev pub AreFormed : List Item → Type 0
AreFormed items = All (λ (item : Item). IsFormed item.what) items

pub record IsDraft (registers : ℕ) (items : List Item) : Type 0 where
  pub few_registers : registers ≤ 256
  pub formed : AreFormed items
